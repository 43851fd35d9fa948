-- Looking remembered rows up, entry by entry.
use Rattle.std.specs.Prelude.{◌≡◌, ℕ, ◌+◌, ◌<◌, min, Bool, true, false, cond, List, [], ◌∷◌, ◌++◌, map, length, take, drop, Some, None, slice_index_or, refl}
use Rattle.std.proofs.Common.{sym, ap, ◌∙◌, arith, take-append-drop}
use Rattle.std.proofs.lemmas.List.{take_more, take-take, map_push, map-append}
use Rattle.std.proofs.lemmas.List.{take_min as take_min_length}
use Rattle.std.proofs.lemmas.Bool.{cond-true, cond-false}
use Rattle.source.specs.declared.mark.Mark.{Mark}
use Rattle.layers.specs.declared.entry.Entry.{Entry}
use Rattle.layers.specs.Memory.{Remembered, kept, is_for, recalled}

module _ (marks : List Mark) (inputs : List ℕ) where
  pub recalled_later : (xs ys : List Remembered) → recalled xs marks inputs ≡ None → recalled (xs ++ ys) marks inputs ≡ recalled ys marks inputs
  recalled_later [] ys h = refl
  recalled_later (x ∷ xs) ys h = go (is_for x marks inputs) h (recalled_later xs ys)
    where
      go : (b : Bool) → cond b (Some x.rows) (recalled xs marks inputs) ≡ None → (recalled xs marks inputs ≡ None → recalled (xs ++ ys) marks inputs ≡ recalled ys marks inputs) → cond b (Some x.rows) (recalled (xs ++ ys) marks inputs) ≡ recalled ys marks inputs
      go true h ih = cc
      go false h ih = ih h

  pub recalled_earlier : (xs ys : List Remembered) (rows : List (List ℕ)) → recalled xs marks inputs ≡ Some rows → recalled (xs ++ ys) marks inputs ≡ Some rows
  recalled_earlier [] ys rows h = cc
  recalled_earlier (x ∷ xs) ys rows h = go (is_for x marks inputs) h (recalled_earlier xs ys rows)
    where
      go : (b : Bool) → cond b (Some x.rows) (recalled xs marks inputs) ≡ Some rows → (recalled xs marks inputs ≡ Some rows → recalled (xs ++ ys) marks inputs ≡ Some rows) → cond b (Some x.rows) (recalled (xs ++ ys) marks inputs) ≡ Some rows
      go true h ih = h
      go false h ih = ih h

  -- An entry looked at after those before it.
  module _ (entries : List Entry) (i : ℕ) (e : Entry) (inside : i < length entries) (here : e ≡ slice_index_or entries i e) (none : recalled (map kept (take i entries)) marks inputs ≡ None) where
    -- what the entries up to it remember is what those before it do, and what it does
    pub upto : map kept (take (i + 1) entries) ≡ map kept (take i entries) ++ kept e ∷ []
    upto = ap (map kept) (take_more entries i e inside) ∙ map_push kept (take i entries) (slice_index_or entries i e) ∙ ap (λ z. map kept (take i entries) ++ kept z ∷ []) (sym here)

    -- if it is for other inputs, nothing is found up to it
    pub none_yet : is_for (kept e) marks inputs ≡ false → recalled (map kept (take (i + 1) entries)) marks inputs ≡ None
    none_yet h = ap (λ z. recalled z marks inputs) upto ∙ recalled_later (map kept (take i entries)) (kept e ∷ []) none ∙ cond-false (is_for (kept e) marks inputs) (Some (kept e).rows) None h

    -- if it is for the inputs, its rows are the ones that are remembered
    pub found_here : (used : ℕ) → i < used → is_for (kept e) marks inputs ≡ true → recalled (map kept (take used entries)) marks inputs ≡ Some (kept e).rows
    found_here used l h =
        let one : recalled (map kept (take (i + 1) entries)) marks inputs ≡ Some (kept e).rows = ap (λ z. recalled z marks inputs) upto ∙ recalled_later (map kept (take i entries)) (kept e ∷ []) none ∙ cond-true (is_for (kept e) marks inputs) (Some (kept e).rows) None h in
        let split : take used entries ≡ take (i + 1) entries ++ drop (i + 1) (take used entries) = sym (take-append-drop (i + 1) (take used entries)) ∙ ap (λ z. z ++ drop (i + 1) (take used entries)) (take-take (i + 1) used entries (omega arith)) in
        ap (λ z. recalled (map kept z) marks inputs) split ∙ ap (λ z. recalled z marks inputs) (map-append kept (take (i + 1) entries) (drop (i + 1) (take used entries))) ∙ recalled_earlier (map kept (take (i + 1) entries)) (map kept (drop (i + 1) (take used entries))) (kept e).rows one

-- no more items are taken than there are
pub take_min : {X : Type 0} (n k : ℕ) (xs : List X) → k ≡ length xs → take (min n k) xs ≡ take n xs
take_min n k xs e = rw e (take_min_length n xs)
