-- Bytes are a file or are refused.
use Rattle.std.proofs.Common.{◌≡◌, ℕ, zero, suc, ◌+◌, ◌<◌, ◌≤◌, ◌⊎◌, List, [], ◌∷◌, ◌++◌, length, drop, sym, refl, ap, ◌∙◌, subst, inl, inr, append-nil, arith, length-append}
use borrow.Author.Tests.{both_ways}
use Rattle.std.proofs.lemmas.List.{nil_from_length}
use Rattle.std.proofs.lemmas.Bool.{cases_lt, cases_Bool}
use Rattle.faults.specs.declared.fault.Fault.{Fault}
use Rattle.source.specs.declared.mark.Mark.{Mark}
use Rattle.source.specs.Rows.{ascending}
use Rattle.numbers.specs.Forms.{NoNumber, Number, encode}
use Rattle.numbers.proofs.Encoding.{number_from}
use Rattle.numbers.proofs.Deciding.{Bytes, decided}
use Rattle.files.specs.Contents.{header_numbers, FileOf}
use Rattle.files.specs.Refusing.{Reads, Cut, Begun, Front, Crowded, earlier, Refuses}
use Rattle.files.specs.Refusing.Refuses.{header_cut, header_range, row_cut, row_order, left_over}
use Rattle.files.specs.Theorems.{AlwaysAnswered}
use Rattle.files.proofs.Reading.{reads_none, reads_one, reads_join}
use Rattle.files.proofs.Heads.{begun_none}
use Rattle.files.proofs.Fronts.{front_push}
use Rattle.files.proofs.Ends.{front_rows, too_crowded, file_held}
use Rattle.files.proofs.Exact.{bytes_drop, heading, head_true, head_back}

abbrev Refused : List ℕ → Type 0
Refused bytes = (fault : Fault) × Refuses bytes fault

module _ (bytes : List ℕ) (small : Bytes bytes) where
  number_or_none : (at : ℕ) → at ≤ length bytes → ((v : ℕ) × (k : ℕ) × Number bytes at v k) ⊎ NoNumber (drop at bytes)
  number_or_none at h = elim (decided (drop at bytes) (bytes_drop bytes at small)) [
    | inl d ↦ inl (d.0, length (encode d.0), number_from at d.0 d.1 d.2 h d.3)
    | inr z ↦ inr z
  ]

  head_or_refused : (k : ℕ) (ns : List ℕ) (p : ℕ) → 3 ≡ length ns + k → Reads bytes 0 ns p → Begun ns → ((ms : List ℕ) × (q : ℕ) × (length ms ≡ 3) × Reads bytes 0 ms q × Begun ms) ⊎ Refused bytes
  head_or_refused zero ns p e r b = inl (ns, p, omega arith, r, b)
  head_or_refused (suc k) ns p e r b = elim (number_or_none p r.inside) [
    | inr z ↦ inr (_, header_cut r b (omega arith) z)
    | inl n ↦ elim (cases_Bool (heading (ns ++ n.0 ∷ []))) [
      | inl t ↦ head_or_refused k (ns ++ n.0 ∷ []) (p + n.1) (rw (length-append ns (n.0 ∷ [])) (omega arith)) (reads_join r (reads_one n.2)) (head_back (ns ++ n.0 ∷ []) t)
      | inr t ↦ inr (_, header_range r b (omega arith) n.2 (λ c. both_ways (heading (ns ++ n.0 ∷ [])) t (head_true (ns ++ n.0 ∷ []) c)))
    ]
  ]

  row_or_cut : (k c p : ℕ) (ns : List ℕ) (q : ℕ) → c ≡ length ns + k → Reads bytes p ns q → ((row : List ℕ) × (to : ℕ) × Reads bytes p row to × (length row ≡ c)) ⊎ ((to : ℕ) × Cut bytes p c to)
  row_or_cut zero c p ns q e r = inl (ns, q, r, omega arith)
  row_or_cut (suc k) c p ns q e r = elim (number_or_none q r.inside) [
    | inr z ↦ inr (q, record { ns = ns; reads = r; fewer = omega arith; none = z })
    | inl n ↦ row_or_cut k c p (ns ++ n.0 ∷ []) (q + n.1) (rw (length-append ns (n.0 ∷ [])) (omega arith)) (reads_join r (reads_one n.2))
  ]

  rows_or_refused : (k : ℕ) (ms : List Mark) (n : ℕ) (rows : List (List ℕ)) (p : ℕ) → n ≡ length rows + k → Front bytes ms n rows p → ((all : List (List ℕ)) × (q : ℕ) × Front bytes ms (length all) all q) ⊎ Refused bytes
  rows_or_refused zero ms n rows p e f = let z : n ≡ length rows = omega arith in inl (rows, p, subst (λ (x : ℕ). Front bytes ms x rows p) z f)
  rows_or_refused (suc k) ms n rows p e f = elim (row_or_cut (length ms) (length ms) p [] p (omega arith) (reads_none bytes p f.reads.inside)) [
    | inr z ↦ inr (_, row_cut f (omega arith) z.1)
    | inl r ↦ elim (cases_Bool (ascending (rows ++ r.0 ∷ []))) [
      | inl t ↦ rows_or_refused k ms n (rows ++ r.0 ∷ []) r.1 (rw (length-append rows (r.0 ∷ [])) (omega arith)) (front_push f (omega arith) r.2 r.3 t)
      | inr t ↦ inr (_, row_order f (omega arith) r.2 r.3 t)
    ]
  ]

crowd_or_none : (ms : List Mark) (rows : List (List ℕ)) (n : ℕ) → n ≤ length rows → ((i : ℕ) × Crowded ms rows i) ⊎ ((j : ℕ) → j < n → length (earlier ms rows j) < 64)
crowd_or_none ms rows zero h = inr (λ j l. absurd (omega arith))
crowd_or_none ms rows (suc n) h = elim (crowd_or_none ms rows n (omega arith)) [
  | inl w ↦ inl w
  | inr u ↦ elim (cases_lt (length (earlier ms rows n)) 64) [
    | inl l ↦ inr (λ j s. elim (cases_lt j n) [ inl x ↦ u j x | inr x ↦ (let e : n ≡ j = omega arith in subst (λ (y : ℕ). length (earlier ms rows y) < 64) e l) ])
    | inr l ↦ inl (n, record { inside = h; many = l; first = u })
  ]
]

ended : (bytes : List ℕ) (ms : List Mark) (rows : List (List ℕ)) (p : ℕ) → Front bytes ms (length rows) rows p → ((marks : List Mark) × (rows : List (List ℕ)) × FileOf bytes marks rows) ⊎ Refused bytes
ended bytes ms rows p f = elim (cases_lt p (length bytes)) [
  | inl l ↦ inr (_, left_over f l)
  | inr l ↦ elim (crowd_or_none ms rows (length rows) (omega arith)) [
    | inl w ↦ inr (_, too_crowded f l w.1 (front_rows ms rows w.0 f.reads refl refl))
    | inr u ↦ inl (ms, rows, file_held f l u)
  ]
]

-- a whole header begins the rows
front_of : (bytes ns : List ℕ) (q : ℕ) → length ns ≡ 3 → Reads bytes 0 ns q → (b : Begun ns) → Front bytes b.marks b.count [] q
front_of bytes ns q l r b =
    let z : b.rest ≡ [] = nil_from_length b.rest (omega (arith, ap length b.numbers_are, length-append ns b.rest)) in
    let e : ns ≡ header_numbers b.marks b.count = sym (b.numbers_are ∙ rw z (append-nil ns)) in
    record { header = b.header; rows_whole = refl; ascends = refl; most = omega arith; reads = subst (λ (x : List ℕ). Reads bytes 0 x q) e r }

pub always_answered : AlwaysAnswered
always_answered bytes small = elim (head_or_refused bytes small 3 [] 0 (omega arith) (reads_none bytes 0 (omega arith)) begun_none) [
  | inr r ↦ inr r
  | inl h ↦ elim (rows_or_refused bytes small h.4.count h.4.marks h.4.count [] h.1 (omega arith) (front_of bytes h.0 h.1 h.2 h.3 h.4)) [
    | inr r ↦ inr r
    | inl a ↦ ended bytes h.4.marks a.0 a.1 a.2
  ]
]
