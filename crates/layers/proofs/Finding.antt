-- The remembered rows by the entry that has them.
use Rattle.std.proofs.Common.{◌≡◌, Bool, true, false, cond, ℕ, List, [], ◌∷◌, map, Some, None, Option, Bor, sym, refl, ap, ◌∙◌}
use Rattle.std.specs.List.{find}
use Rattle.std.specs.Option.{option_map}
use Rattle.source.specs.declared.mark.Mark.{Mark}
use Rattle.layers.specs.declared.entry.Entry.{Entry}
use Rattle.layers.specs.Memory.{kept, is_for, recalled}

module _ (marks : List Mark) (inputs : List ℕ) where
  -- the rows of an entry, if there is one
  abbrev rows_of : Option Entry → Option (List (List ℕ))
  rows_of o = option_map (λ e. (kept e).rows) o

  -- the first entry for the inputs, under the marks
  abbrev first_for : List Entry → Option Entry
  first_for entries = find (λ e. is_for (kept e) marks inputs) entries

  by_entry : (entries : List Entry) → recalled (map kept entries) marks inputs ≡ rows_of (first_for entries)
  by_entry [] = refl
  by_entry (e ∷ es) = go (is_for (kept e) marks inputs) (by_entry es)
    where
      go : (b : Bool) → recalled (map kept es) marks inputs ≡ rows_of (first_for es) → cond b (Some (kept e).rows) (recalled (map kept es) marks inputs) ≡ rows_of (cond b (Some e) (first_for es))
      go true ih = refl
      go false ih = ih

  pub recalled_by_entry : (entries : List Entry) (found : Option (Bor Entry)) → option_map (λ e. e.now) found ≡ find (λ e. is_for (kept e) marks inputs) entries → recalled (map kept entries) marks inputs ≡ option_map (λ e. (kept e.now).rows) found
  recalled_by_entry entries None h = by_entry entries ∙ ap rows_of (sym h)
  recalled_by_entry entries (Some e) h = by_entry entries ∙ ap rows_of (sym h)
