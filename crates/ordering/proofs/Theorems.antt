-- What picking the lowest ready literal, one after another, comes to.
use Rattle.std.proofs.Common.{◌≡◌, ℕ, zero, suc, ◌<◌, ◌≤◌, true, ◌⊎◌, List, [], ◌∷◌, ◌++◌, length, get_or, take, Ok, Err, Result, sym, refl, ap, ◌∙◌, subst, ap₂, inl, inr, add-one, arith}
use mathlib.Core.List.Memᴰ
use mathlib.Core.List.{Memᴰ}
use native.Mathlib.Decide.{dec_lt}
use native.Mathlib.Nat.{suc-le-suc_iff}
use Rattle.std.proofs.lemmas.List.{take_all, take_more, take-append-le, get_or_append_left, get_or_push, length_push}
use Rattle.source.specs.Rows.{before}
use Rattle.source.proofs.Rows.{before_irrefl, before_trans, before_at_head, before_in_tail}
use Rattle.query.specs.declared.term.Term.{Term}
use Rattle.faults.specs.declared.fault.Fault.{Fault}
use Rattle.faults.specs.declared.refusal.Refusal.TheVariants.{NoExecutableOrder}
use Rattle.faults.specs.Faults.{at_literal}
use Rattle.ordering.specs.declared.places.Order.{Order}
use Rattle.ordering.specs.Listed.{places_of}
use Rattle.ordering.specs.Answers.{Answered, Only}
use Rattle.ordering.specs.Literals.{Literal, literal_at}
use Rattle.ordering.specs.Orders.{none, Selection, Rearrangement, Known, constant, variable, Ready, Executable, Attainable, First, Unordered}
use Rattle.ordering.specs.Picking.{Picks, Stuck, LowestLeft}
use Rattle.ordering.proofs.Members.{member?, member_at, member_take_more, member_push}
use Rattle.ordering.proofs.Counting.{distinct_push, distinct_front, selection_fits, rearrangements_level}

-- a list that is nowhere above another, up to where they first differ, is equal to it or comes before it
not_above : (xs ys : List ℕ) → length xs ≡ length ys → ((i : ℕ) → i < length xs → i < length ys → take i xs ≡ take i ys → get_or xs i 0 ≤ get_or ys i 0) → (xs ≡ ys) ⊎ (before xs ys ≡ true)
not_above [] [] e h = inl refl
not_above [] (y ∷ ys) e h = let z : ⊥ = omega arith in absurd z
not_above (x ∷ xs) [] e h = let z : ⊥ = omega arith in absurd z
not_above (x ∷ xs) (y ∷ ys) e h = go (dec_lt x y) (not_above xs ys)
  where
    join : x ≡ y → (xs ≡ ys) ⊎ (before xs ys ≡ true) → (◌≡◌ {A = List ℕ} (x ∷ xs) (y ∷ ys)) ⊎ (before (x ∷ xs) (y ∷ ys) ≡ true)
    join f (inl g) = inl (ap₂ ◌∷◌ f g)
    join f (inr g) = inr (before_in_tail x y xs ys f g)

    go : Dec (x < y) → (length xs ≡ length ys → ((i : ℕ) → i < length xs → i < length ys → take i xs ≡ take i ys → get_or xs i 0 ≤ get_or ys i 0) → (xs ≡ ys) ⊎ (before xs ys ≡ true)) → (◌≡◌ {A = List ℕ} (x ∷ xs) (y ∷ ys)) ⊎ (before (x ∷ xs) (y ∷ ys) ≡ true)
    go (yes l) f = inr (before_at_head x y xs ys l)
    go (no n) f =
        let low : x ≤ y = h 0 (omega arith) (omega arith) refl in
        let same : x ≡ y = omega arith in
        join same (f (omega arith) (λ i a b t. h (suc i) (suc-le-suc_iff.1 a) (suc-le-suc_iff.1 b) (ap₂ ◌∷◌ same t)))

module _ {literals : List Literal} where
  known_later : {earlier later : List ℕ} {t : Term} → ((place : ℕ) → Memᴰ place earlier → Memᴰ place later) → Known literals earlier t → Known literals later t
  known_later s (constant value) = constant value
  known_later s (variable v place m n) = variable v place (s place m) n

  -- what is executable after nothing stays inside of the taken places
  reached : {taken order : List ℕ} → Stuck literals taken → Selection (length literals) order → Executable literals order → (i : ℕ) → i ≤ length order → (place : ℕ) → Memᴰ place (take i order) → Memᴰ place taken
  reached stuck s x zero h place m = absurd (Memᴰ.not-nil m)
  reached {taken} {order} stuck s x (suc i) h place m = go (reached stuck s x i (omega arith))
    where
      inside : i < length order
      inside = omega arith

      go : ((place : ℕ) → Memᴰ place (take i order) → Memᴰ place taken) → Memᴰ place taken
      go front =
          let p = get_or order i 0 in
          elim (member_take_more order i 0 inside (subst (λ n. Memᴰ place (take n order)) (sym (add-one i)) m)) [
            | inl a ↦ front place a
            | inr e ↦
                Memᴰ.cast e (elim (member? p taken) [
                  | yes t ↦ t
                  | no n ↦ absurd (stuck p (s.within p (member_at order i 0 inside)) (record { fresh = n; ready = λ column l g. known_later front (x i inside column l g) }))
                ])
          ]

  -- where picking is stuck, the places that are left lie in no executable order
  stuck_for_good : {taken : List ℕ} {place : ℕ} → Stuck literals taken → (Memᴰ place taken → ⊥) → Attainable literals place → ⊥
  stuck_for_good stuck fresh a =
      fresh (reached stuck a.selection a.executable (length a.order) (omega arith) _ (rw (take_all (length a.order) a.order (omega arith)) a.lies))

-- each place of the order was picked after those in front of it
abbrev pub Picked : List Literal → List ℕ → Type 0
Picked literals order = (i : ℕ) → i < length order → Picks literals (take i order) (get_or order i 0)

module _ {literals : List Literal} where
  pub picked_push : (order : List ℕ) (place : ℕ) → Picked literals order → Picks literals order place → Picked literals (order ++ place ∷ [])
  picked_push order place p q i h = go (dec_lt i (length order))
    where
      go : Dec (i < length order) → Picks literals (take i (order ++ place ∷ [])) (get_or (order ++ place ∷ []) i 0)
      go (yes l) = rw (take-append-le i order (place ∷ []) (omega arith), get_or_append_left order (place ∷ []) 0 i l) (p i l)
      go (no n) =
          let e : length order ≡ i = omega (arith, length_push order place) in
          rw (take-append-le i order (place ∷ []) (omega arith), get_or_push order place 0 i e, take_all i order (omega arith)) q

  picked_front : {order : List ℕ} → Picked literals order → (i : ℕ) → i ≤ length order → Selection (length literals) (take i order)
  picked_front p zero h = record { within = λ place m. absurd (Memᴰ.not-nil m); distinct = none }
  picked_front {order} p (suc i) h = go (picked_front p i (omega arith))
    where
      inside : i < length order
      inside = omega arith

      more : take (suc i) order ≡ take i order ++ get_or order i 0 ∷ []
      more = ap (λ n. take n order) (sym (add-one i)) ∙ take_more order i 0 inside

      go : Selection (length literals) (take i order) → Selection (length literals) (take (suc i) order)
      go s = rw more (record {
        within = λ place m. elim (member_push (take i order) (get_or order i 0) m) [ inl a ↦ s.within place a | inr e ↦ rw e (p i inside).within ];
        distinct = distinct_push s.distinct (p i inside).next.fresh;
      })

  pub picked_selects : {order : List ℕ} → Picked literals order → Selection (length literals) order
  picked_selects {order} p =
      subst (Selection (length literals)) (take_all (length order) order (omega arith)) (picked_front p (length order) (omega arith))

  pub picked_few : {order : List ℕ} {place : ℕ} → Picked literals order → Picks literals order place → length order < length literals
  picked_few {order} {place} p q =
      let fits = selection_fits (picked_selects (picked_push order place p q)) in
      omega (arith, length_push order place)

  picked_executable : {order : List ℕ} → Picked literals order → Executable literals order
  picked_executable p i h = (p i h).next.ready

  -- picking all places gives the first executable order
  pub picked_first : {order : List ℕ} → Picked literals order → ((place : ℕ) → place < length literals → Memᴰ place order) → First literals order
  picked_first {order} p all = record { rearrangement = whole; executable = picked_executable p; first = λ other r x. not_above order other (rearrangements_level whole r) (lowest other r x) }
    where
      whole : Rearrangement (length literals) order
      whole = record { selection = picked_selects p; all = all }

      lowest : (other : List ℕ) → Rearrangement (length literals) other → Executable literals other → (i : ℕ) → i < length order → i < length other → take i order ≡ take i other → get_or order i 0 ≤ get_or other i 0
      lowest other r x i h k e = go (dec_lt (get_or other i 0) (get_or order i 0))
        where
          go : Dec (get_or other i 0 < get_or order i 0) → get_or order i 0 ≤ get_or other i 0
          go (no n) = omega arith
          go (yes l) =
              absurd ((p i h).lowest (get_or other i 0) l (record {
                fresh = λ m. distinct_front r.selection.distinct i k (subst (Memᴰ (get_or other i 0)) e m);
                ready = subst (λ front. Ready literals front (literal_at literals (get_or other i 0))) (sym e) (x i k);
              }))

  -- picking that is stuck before all places are taken shows that no order is executable
  pub picked_unordered : {order : List ℕ} {place : ℕ} → Picked literals order → Stuck literals order → LowestLeft (length literals) order place → Unordered literals place
  picked_unordered {order} {place} p stuck left =
      let never : Attainable literals place → ⊥ = stuck_for_good stuck left.fresh in
      record {
        none = λ other r x. never (record { order = other; selection = r.selection; executable = x; lies = r.all place left.within });
        there = left.within;
        never = never;
        lowest = λ lower h. record { order = order; selection = picked_selects p; executable = picked_executable p; lies = left.lowest lower h };
      }

-- there is one answer to the literals of a query
module _ {literals : List Literal} where
  one_first : {order other : List ℕ} → First literals order → First literals other → order ≡ other
  one_first {order} {other} a b = go (a.first other b.rearrangement b.executable) (b.first order a.rearrangement a.executable)
    where
      go : (order ≡ other) ⊎ (before order other ≡ true) → (other ≡ order) ⊎ (before other order ≡ true) → order ≡ other
      go (inl e) d = e
      go (inr l) (inl e) = sym e
      go (inr l) (inr m) = absurd (before_irrefl order (before_trans order other order l m))

  one_place : {place other : ℕ} → Unordered literals place → Unordered literals other → place ≡ other
  one_place {place} {other} a b = go (dec_lt place other) (dec_lt other place)
    where
      go : Dec (place < other) → Dec (other < place) → place ≡ other
      go (yes l) d = absurd (a.never (b.lowest place l))
      go (no n) (yes l) = absurd (b.never (a.lowest other l))
      go (no n) (no m) = omega arith

pub only_answer : (literals : List Literal) (answer : Result Order Fault) → Answered literals answer → Only literals answer
only_answer literals (Ok order) a (Ok other) b = one_first a b
only_answer literals (Ok order) a (Err fault) b = b.unordered.none (places_of order) a.rearrangement a.executable
only_answer literals (Err fault) a (Ok order) b = a.unordered.none (places_of order) b.rearrangement b.executable
only_answer literals (Err fault) a (Err other) b =
    a.fault_is ∙ ap (at_literal NoExecutableOrder) (one_place a.unordered b.unordered) ∙ sym b.fault_is
