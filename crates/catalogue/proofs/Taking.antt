-- A token taken, stage by stage.
use Rattle.std.proofs.Common.{◌≡◌, ℕ, suc, ◌+◌, ◌<◌, ◌≤◌, Bool, true, false, cond, ◌&&◌, ◌||◌, ltb, leb, List, [], ◌∷◌, ◌++◌, map, length, Some, None, Ok, is_some, Option, sym, refl, ap, ◌∙◌, subst, append_assoc, append-nil, arith, le-ltb, le-leb}
use borrow.Author.Tests.{lt-leb}
use Rattle.std.specs.Option.{ok_or}
use Rattle.std.proofs.lemmas.Bool.{or_right}
use Rattle.std.proofs.lemmas.List.{map_push, length-map}
use Rattle.faults.specs.declared.refusal.Refusal.{Refusal}
use Rattle.faults.specs.declared.refusal.Refusal.TheVariants.{CatalogueLimit, SourceNamedTwice}
use Rattle.source.specs.declared.mark.Mark.{Mark}
use Rattle.source.specs.declared.mark.Mark.TheVariants.{Given, Free}
use Rattle.source.specs.Marks.{inputs_of}
use Rattle.bounded.specs.declared.list.Bounded.{Bounded}
use Rattle.bounded.specs.Held.{held}
use Rattle.bounded.proofs.Holding.{pushed}
use Rattle.lexing.specs.Tokens.{Token, is}
use Rattle.lexing.specs.Names.{is_name, among, place_of, number_of, with_name, first_seen, numbers, AllAmong}
use Rattle.lexing.specs.Lists.{names, crowded, Numbered}
use Rattle.lexing.specs.Readers.{Taken}
use Rattle.lexing.proofs.Naming.{place_some, place_none, seen_push, seen_all, all_among_0, all_among_1, numbers_push, numbers_kept, numbers_length, number_added, length_added}
use Rattle.lexing.proofs.Holding.{roomy}
use Rattle.catalogue.specs.declared.columns.Columns as rc
use Rattle.catalogue.specs.declared.columns.Entry.{Entry}
use Rattle.catalogue.specs.declared.state.Reader.{Reader}
use Rattle.catalogue.specs.declared.state.Stage.{Stage}
use Rattle.catalogue.specs.declared.state.Stage.TheVariants as at
use Rattle.catalogue.specs.Sheets.{Column, Line, some, kinds_of, kinds_in, names_in, marks_in, known, Part, lines, columns, spaced, kinded, coloned}
use Rattle.catalogue.specs.Plain.{PlainColumns, entry_name, entry_columns, shaped, all_shaped}
use Rattle.catalogue.specs.Records.{numbered}
use Rattle.catalogue.specs.Reading.{mark_or_free, mark_read, refusal, wrong, steps, Seen, Begun, Behind, BehindKind, At}
use Rattle.catalogue.proofs.Shaping.{kinds_length, marks_length, all_shaped_kept, all_shaped_push, line_shaped}

-- what `ok_or` takes from an `Option`
pub was_some : {X : Type 0} (o : Option X) (r : Refusal) (x : X) → Ok x ≡ ok_or o r → o ≡ Some x
was_some None r x e = absurd (cc)
was_some (Some y) r x e = let z : x ≡ y = cc in ap Some (sym z)

told_limit : (a b c : Bool) → a ≡ true → b ≡ true → refusal a b c ≡ Some CatalogueLimit
told_limit a b c e f = rw (e, f) refl

told_twice : (a b c : Bool) → a ≡ true → b ≡ false → c ≡ true → refusal a b c ≡ Some SourceNamedTwice
told_twice a b c e f g = rw (e, f, g) refl

told_none : (a b c : Bool) → a ≡ true → b ≡ false → c ≡ false → refusal a b c ≡ None
told_none a b c e f g = rw (e, f, g) refl

-- lists that grow by one
kinds_push : (cs : List Column) (c : Column) → kinds_of (cs ++ c ∷ []) ≡ kinds_of cs ++ c.kind ∷ []
kinds_push [] c = refl
kinds_push (x ∷ cs) c = ap (λ (l : List Token). x.kind ∷ l) (kinds_push cs c)

marks_push : (cs : List Column) (c : Column) → marks_in (cs ++ c ∷ []) ≡ marks_in cs ++ c.mark ∷ []
marks_push [] c = refl
marks_push (x ∷ cs) c = ap (λ (l : List Mark). x.mark ∷ l) (marks_push cs c)

names_push : (ls : List Line) (l : Line) → names_in (ls ++ l ∷ []) ≡ names_in ls ++ l.name ∷ []
names_push [] l = refl
names_push (x ∷ ls) l = ap (λ (k : List Token). x.name ∷ k) (names_push ls l)

kinds_in_push : (ls : List Line) (l : Line) → kinds_in (ls ++ l ∷ []) ≡ kinds_in ls ++ kinds_of l.columns
kinds_in_push [] l = append-nil (kinds_of l.columns)
kinds_in_push (x ∷ ls) l = ap (λ (k : List Token). kinds_of x.columns ++ k) (kinds_in_push ls l) ∙ sym (append_assoc (kinds_of x.columns) (kinds_in ls) (kinds_of l.columns))

inputs_push : (ms : List Mark) (m : Mark) → inputs_of (ms ++ m ∷ []) ≡ inputs_of ms + inputs_of (m ∷ [])
inputs_push [] m = omega arith
inputs_push (Given ∷ ms) m = let z = inputs_push ms m in omega arith
inputs_push (Free ∷ ms) m = inputs_push ms m

some_length : {X : Type 0} (xs : List X) → (length xs ≡ 0 → ⊥) → some xs ≡ true
some_length [] h = absurd (h refl)
some_length (x ∷ xs) h = refl

-- numbered lines keep their numbers when a kind is added
lines_kept : (ks : List Token) (k : Token) (ls : List Line) → AllAmong (kinds_in ls) ks → map (numbered (with_name ks k)) ls ≡ map (numbered ks) ls
lines_kept ks k [] a = refl
lines_kept ks k (l ∷ ls) a =
    let e = numbers_kept ks (kinds_of l.columns) k (all_among_0 (kinds_of l.columns) (kinds_in ls) ks a) in
    let f = lines_kept ks k ls (all_among_1 (kinds_of l.columns) (kinds_in ls) ks a) in
    rw (e, f) refl

pub names_count : (ls : List Line) → length (names_in ls) ≡ length ls
names_count [] = refl
names_count (l ∷ ls) = ap suc (names_count ls)

-- there are as many entries as lines
pub entries_count : (r : Reader) (ks : List Token) (ls : List Line) → Seen r ks ls → length (held r.entries) ≡ length ls
entries_count r ks ls s = sym (length-map (held r.entries) entry_name) ∙ ap length s.sources ∙ names_count ls

-- the lines stage
module _ (r : Reader) (t : Token) (ls : List Line) (s : Seen r (kinds_in ls) ls) (name : is_name t ≡ true) (short : length t ≤ 16) where
  pub ninth : 8 ≤ length (held r.entries) → wrong (lines ls) t ≡ Some CatalogueLimit
  ninth h = told_limit (is_name t) (ltb 16 (length t) || leb 8 (length ls)) (among t (names_in ls)) name
      (or_right (ltb 16 (length t)) (leb 8 (length ls)) (le-leb 8 (length ls) (let z = entries_count r (kinds_in ls) ls s in omega arith)))

  module _ (few : length (held r.entries) < 8) (place : Option ℕ) (found : place ≡ place_of t (map entry_name (held r.entries))) where
    fits_in : (ltb 16 (length t) || leb 8 (length ls)) ≡ false
    fits_in = rw (le-ltb 16 (length t) short) (lt-leb 8 (length ls) (let z = entries_count r (kinds_in ls) ls s in omega arith))

    looked : place_of t (names_in ls) ≡ place
    looked = sym (found ∙ ap (place_of t) s.sources)

    pub twice : is_some place ≡ true → wrong (lines ls) t ≡ Some SourceNamedTwice
    twice h = told_twice (is_name t) (ltb 16 (length t) || leb 8 (length ls)) (among t (names_in ls)) name fits_in (go place looked h)
      where
        go : (o : Option ℕ) → place_of t (names_in ls) ≡ o → is_some o ≡ true → among t (names_in ls) ≡ true
        go None e h = absurd (cc)
        go (Some i) e h = (place_some t (names_in ls) i e).2

    pub begins_line : is_some place ≡ false → (e : Entry) → held e.name ≡ t → held e.columns.kinds ≡ [] → held e.columns.marks ≡ [] → Taken steps (At (record { stage = r.stage; kinds = r.kinds; entries = r.entries; entry = e })) (lines ls) t (Ok at.Columns)
    begins_line h e n ks ms = (
      told_none (is_name t) (ltb 16 (length t) || leb 8 (length ls)) (among t (names_in ls)) name fits_in (go place looked h),
      (
        refl,
        record {
          seen = record { kinds = rw (append-nil (kinds_in ls)) s.kinds; sources = s.sources; lines = s.lines; shaped = s.shaped };
          begun = record { room = let z = entries_count r (kinds_in ls) ls s in omega arith; name = n; kinds = ks; marks = ms; few = omega arith };
        },
      ),
    )
      where
        go : (o : Option ℕ) → place_of t (names_in ls) ≡ o → is_some o ≡ false → among t (names_in ls) ≡ false
        go None e h = (place_none t (names_in ls) e).0
        go (Some i) e h = absurd (cc)

-- the columns stage
module _ (r : Reader) (t : Token) (ls : List Line) (n : Token) (cs : List Column) (behind : Behind r r.entry ls n cs) where
  abbrev e : Entry
  e = r.entry

  pub goes_on : is 32 t ≡ true → Taken steps (At r) (columns ls n cs) t (Ok at.Spaced)
  goes_on a = rw a (refl, (refl, behind))

  module _ (a : is 32 t ≡ false) (d : is 10 t ≡ true) (nonzero : length (held e.columns.marks) ≡ 0 → ⊥) (more : Bounded Entry 8) (b : Bool) (u : b ≡ ltb r.entries.used 8) (v : held more ≡ cond b (held r.entries ++ e ∷ []) (held r.entries)) where
    abbrev s : Seen r (kinds_in ls ++ kinds_of cs) ls
    s = behind.seen

    abbrev g : Begun r e ls n cs
    g = behind.begun

    abbrev ks : List Token
    ks = names r.kinds

    abbrev l : Line
    l = record { name = n; columns = cs }

    z : some cs ≡ true
    z = some_length cs (λ w. nonzero (let q = ap length g.marks in let y = marks_length cs in omega arith))

    line_fits : (some cs && is 10 t) ≡ true
    line_fits = rw (z, d) refl

    grown : held more ≡ held r.entries ++ e ∷ []
    grown = pushed r.entries more e b u v (let q = g.room in let y = entries_count r (kinds_in ls ++ kinds_of cs) ls s in omega arith)

    same : entry_columns e ≡ numbered (names r.kinds) (record { name = n; columns = cs })
    same = rw (g.kinds, g.marks) refl

    pub ends_line : Taken steps (At (record { stage = r.stage; kinds = r.kinds; entries = more; entry = r.entry })) (columns ls n cs) t (Ok at.Lines)
    ends_line = rw a (
      told_none (some cs && is 10 t) false false line_fits refl refl,
      (
        refl,
        record {
          kinds = s.kinds ∙ ap (first_seen []) (sym (kinds_in_push ls l));
          sources = ap (map entry_name) grown ∙ map_push entry_name (held r.entries) e ∙ ap (λ (x : List Token). x ++ entry_name e ∷ []) s.sources ∙ ap (λ (x : Token). names_in ls ++ x ∷ []) g.name ∙ sym (names_push ls l);
          lines = ap (map entry_columns) grown ∙ map_push entry_columns (held r.entries) e ∙ ap (λ (x : List PlainColumns). x ++ entry_columns e ∷ []) s.lines
              ∙ ap (λ (x : PlainColumns). map (numbered ks) ls ++ x ∷ []) same ∙ sym (map_push (numbered ks) ls l);
          shaped = subst (λ (x : List PlainColumns). all_shaped (length ks) x ≡ true) (sym (ap (map entry_columns) grown ∙ map_push entry_columns (held r.entries) e))
              (all_shaped_push (length ks) (map entry_columns (held r.entries)) (entry_columns e) s.shaped (ap (shaped (length ks)) same ∙ line_shaped ks l z g.few
              (all_among_1 (kinds_in ls) (kinds_of cs) ks (subst (AllAmong (kinds_in ls ++ kinds_of cs)) (sym s.kinds) (seen_all [] (kinds_in ls ++ kinds_of cs))))));
        },
      ),
    )

-- the spaced stage
module _ (r : Reader) (t : Token) (ls : List Line) (n : Token) (cs : List Column) (behind : Behind r r.entry ls n cs) (name : is_name t ≡ true) where
  columns_count : length (held r.entry.columns.marks) ≡ length cs
  columns_count = ap length behind.begun.marks ∙ marks_length cs

  pub fifth : 4 ≤ length (held r.entry.columns.marks) → wrong (spaced ls n cs) t ≡ Some CatalogueLimit
  fifth h = told_limit (is_name t) (leb 4 (length cs) || crowded t (known ls cs)) false name (rw (le-leb 4 (length cs) (let z = columns_count in omega arith)) refl)

  pub has_kind : (more : Bounded (Bounded ℕ 16) 16) (i : ℕ) → length (held r.entry.columns.marks) < 4 → Numbered (names r.kinds) (names more) t 16 (Some i) →
      Taken steps (At (record { stage = r.stage; kinds = more; entries = r.entries; entry = r.entry })) (spaced ls n cs) t (Ok (at.Kinded i))
  has_kind more i few q =
      let s = behind.seen in
      let g = behind.begun in
      let ks = names r.kinds in
      let seen : AllAmong (kinds_in ls ++ kinds_of cs) ks = subst (AllAmong (kinds_in ls ++ kinds_of cs)) (sym s.kinds) (seen_all [] (kinds_in ls ++ kinds_of cs)) in
      let room : length cs < 4 = let z = columns_count in omega arith in (
        told_none (is_name t) (leb 4 (length cs) || crowded t (known ls cs)) false name (rw (lt-leb 4 (length cs) room) (roomy (known ls cs) t (names r.kinds) (names more) i s.kinds q)) refl,
        (
          i,
          refl,
          record {
            seen = record {
              kinds = q.0 ∙ ap (λ (x : List Token). with_name x t) s.kinds ∙ sym (seen_push [] (kinds_in ls ++ kinds_of cs) t) ∙ ap (first_seen []) (append_assoc (kinds_in ls) (kinds_of cs) (t ∷ []));
              sources = s.sources;
              shaped = subst (λ (x : List Token). all_shaped (length x) (map entry_columns (held r.entries)) ≡ true) (sym q.0) (all_shaped_kept (length ks) (length (with_name ks t)) (map entry_columns (held r.entries)) (length_added ks t) s.shaped);
              lines = s.lines ∙ sym (ap (λ (x : List Token). map (numbered x) ls) q.0 ∙ lines_kept ks t ls (all_among_0 (kinds_in ls) (kinds_of cs) ks seen));
            };
            begun = record {
              room = g.room;
              name = g.name;
              marks = g.marks;
              few = g.few;
              kinds = g.kinds ∙ sym (ap (λ (x : List Token). numbers x (kinds_of cs)) q.0 ∙ numbers_kept ks (kinds_of cs) t (all_among_1 (kinds_in ls) (kinds_of cs) ks seen));
            };
            kind = record { room = room; number = q.1 ∙ sym (ap (number_of t) q.0 ∙ number_added t ks) };
          },
        ),
      )

-- the kinded stage
pub has_colon : (r : Reader) (i : ℕ) (t : Token) (ls : List Line) (n : Token) (cs : List Column) (k : Token) → BehindKind r r.entry i ls n cs k → is 58 t ≡ true → Taken steps (At r) (kinded ls n cs k) t (Ok (at.Coloned i))
has_colon r i t ls n cs k behind c = (told_none (is 58 t) false false c refl refl, (i, refl, behind))

-- the coloned stage
mark_fits : (t : Token) (m : Mark) → Some m ≡ mark_read t → ((is 98 t || is 102 t) ≡ true) × (m ≡ mark_or_free t)
mark_fits t m e = go (is 98 t) (is 102 t) e
  where
    go : (x y : Bool) → Some m ≡ cond x (Some Given) (cond y (Some Free) None) → ((x || y) ≡ true) × (m ≡ cond x Given Free)
    go true y f = (refl, cc)
    go false true f = (refl, cc)
    go false false f = absurd (cc)

module _ (r : Reader) (i : ℕ) (t : Token) (ls : List Line) (n : Token) (cs : List Column) (k : Token) (behind : BehindKind r r.entry i ls n cs k) (mark : Mark) (read : Some mark ≡ mark_read t) where
  abbrev begun_entry : Entry
  begun_entry = r.entry

  pub has_mark : (mark ≡ Given → inputs_of (held begun_entry.columns.marks) < 3) → (more : rc.Columns) →
      (length (held begun_entry.columns.kinds) < 4 → held more.kinds ≡ held begun_entry.columns.kinds ++ i ∷ []) → (length (held begun_entry.columns.marks) < 4 → held more.marks ≡ held begun_entry.columns.marks ++ mark ∷ []) →
      Taken steps (At (record { stage = r.stage; kinds = r.kinds; entries = r.entries; entry = record { name = begun_entry.name; columns = more } })) (coloned ls n cs k) t (Ok at.Columns)
  has_mark few more ka ma =
      let s = behind.seen in
      let g = behind.begun in
      let j = behind.kind in
      let ks = names r.kinds in
      let c : Column = record { kind = k; mark = mark_or_free t } in
      let is_mark = mark_fits t mark read in
      let marks_so = ma (let q = ap length g.marks in let y = marks_length cs in omega (arith, j.room)) in
      let kinds_so = ka (let q = ap length g.kinds in let y = numbers_length ks (kinds_of cs) in let x = kinds_length cs in omega (arith, j.room)) in
      let marks_are : held more.marks ≡ marks_in (cs ++ c ∷ []) = marks_so ∙ ap (λ (x : List Mark). x ++ mark ∷ []) g.marks ∙ ap (λ (x : Mark). marks_in cs ++ x ∷ []) is_mark.1 ∙ sym (marks_push cs c) in (
        told_none (is 98 t || is 102 t) (is 98 t && leb 3 (inputs_of (marks_in cs))) false is_mark.0 (not_past (is 98 t) refl) refl,
        (
          refl,
          record {
            seen = record { kinds = s.kinds ∙ ap (λ (x : List Token). first_seen [] (kinds_in ls ++ x)) (sym (kinds_push cs c)); sources = s.sources; lines = s.lines; shaped = s.shaped };
            begun = record {
              room = g.room;
              name = g.name;
              marks = marks_are;
              kinds = kinds_so ∙ ap (λ (x : List ℕ). x ++ i ∷ []) g.kinds ∙ ap (λ (x : ℕ). numbers ks (kinds_of cs) ++ x ∷ []) j.number ∙ sym (numbers_push ks (kinds_of cs) k) ∙ ap (numbers ks) (sym (kinds_push cs c));
              few = subst (λ (x : List Mark). inputs_of x ≤ 3) (ap (λ (x : Mark). marks_in cs ++ x ∷ []) is_mark.1 ∙ sym (marks_push cs c)) (few_more mark (λ w. let z = few w in let y = ap inputs_of g.marks in omega arith) g.few);
            };
          },
        ),
      )
    where
      few_more : (m : Mark) → (m ≡ Given → inputs_of (marks_in cs) < 3) → inputs_of (marks_in cs) ≤ 3 → inputs_of (marks_in cs ++ m ∷ []) ≤ 3
      few_more Given f h = let z = f refl in let y = inputs_push (marks_in cs) Given in omega arith
      few_more Free f h = let y = inputs_push (marks_in cs) Free in omega arith

      not_past : (x : Bool) → is 98 t ≡ x → (is 98 t && leb 3 (inputs_of (marks_in cs))) ≡ false
      not_past false i = rw i refl
      not_past true i = rw i (lt-leb 3 (inputs_of (marks_in cs)) (let y = few ((mark_fits t mark read).1 ∙ rw i refl) in let z = ap inputs_of behind.begun.marks in omega arith))

-- what the stage of a reader says of the part behind which it stands
abbrev pub Standing : Reader → Stage → (Part → Type 0) → Type 0
Standing r at.Lines P = (ls : List Line) → Seen r (kinds_in ls) ls → P (lines ls)
Standing r at.Columns P = (ls : List Line) (n : Token) (cs : List Column) → Behind r r.entry ls n cs → P (columns ls n cs)
Standing r at.Spaced P = (ls : List Line) (n : Token) (cs : List Column) → Behind r r.entry ls n cs → P (spaced ls n cs)
Standing r (at.Kinded i) P = (ls : List Line) (n : Token) (cs : List Column) (k : Token) → BehindKind r r.entry i ls n cs k → P (kinded ls n cs k)
Standing r (at.Coloned i) P = (ls : List Line) (n : Token) (cs : List Column) (k : Token) → BehindKind r r.entry i ls n cs k → P (coloned ls n cs k)

at_stage : (r : Reader) (s : Stage) (P : Part → Type 0) (p : Part) → At r s p → Standing r s P → P p
at_stage r s P (lines ls) a f = (subst (λ (x : Stage). Standing r x P) a.0 f) ls a.1
at_stage r s P (columns ls n cs) a f = (subst (λ (x : Stage). Standing r x P) a.0 f) ls n cs a.1
at_stage r s P (spaced ls n cs) a f = (subst (λ (x : Stage). Standing r x P) a.0 f) ls n cs a.1
at_stage r s P (kinded ls n cs k) a f = (subst (λ (x : Stage). Standing r x P) a.1 f) ls n cs k a.2
at_stage r s P (coloned ls n cs k) a f = (subst (λ (x : Stage). Standing r x P) a.1 f) ls n cs k a.2

pub by_stage : (r : Reader) (s : Stage) (P : Part → Type 0) → r.stage ≡ s → Standing r s P → (p : Part) → At r r.stage p → P p
by_stage r s P e f p a = at_stage r r.stage P p a (subst (λ (x : Stage). Standing r x P) (sym e) f)

-- what is said of a reader at a stage does not depend on the stage at which it is
module _ (r : Reader) (x : Stage) where
  abbrev moved : Reader
  moved = record { stage = x; kinds = r.kinds; entries = r.entries; entry = r.entry }

  seen_moved : (ks : List Token) (ls : List Line) → Seen r ks ls → Seen moved ks ls
  seen_moved _ ls s = record { kinds = s.kinds; sources = s.sources; lines = s.lines; shaped = s.shaped }

  begun_moved : (e : Entry) (ls : List Line) (n : Token) (cs : List Column) → Begun r e ls n cs → Begun moved e ls n cs
  begun_moved e ls n cs g = record { room = g.room; name = g.name; kinds = g.kinds; marks = g.marks; few = g.few }

  behind_moved : (e : Entry) (ls : List Line) (n : Token) (cs : List Column) → Behind r e ls n cs → Behind moved e ls n cs
  behind_moved e ls n cs b = record { seen = seen_moved _ ls b.seen; begun = begun_moved e ls n cs b.begun }

  kind_moved : (e : Entry) (i : ℕ) (ls : List Line) (n : Token) (cs : List Column) (k : Token) → BehindKind r e i ls n cs k → BehindKind moved e i ls n cs k
  kind_moved e i ls n cs k b = record { seen = seen_moved _ ls b.seen; begun = begun_moved e ls n cs b.begun; kind = record { room = b.kind.room; number = b.kind.number } }

  pub at_moved : (s : Stage) (p : Part) → At r s p → At moved s p
  at_moved s (lines ls) a = (a.0, seen_moved _ ls a.1)
  at_moved s (columns ls n cs) a = (a.0, behind_moved r.entry ls n cs a.1)
  at_moved s (spaced ls n cs) a = (a.0, behind_moved r.entry ls n cs a.1)
  at_moved s (kinded ls n cs k) a = (a.0, a.1, kind_moved r.entry a.0 ls n cs k a.2)
  at_moved s (coloned ls n cs k) a = (a.0, a.1, kind_moved r.entry a.0 ls n cs k a.2)
