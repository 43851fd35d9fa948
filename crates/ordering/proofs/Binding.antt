-- The table of bound variables: how it grows, and what it tells of a literal.
use Rattle.std.proofs.Common.{◌≡◌, ℕ, ◌<◌, Bool, true, false, ◌||◌, ◌⊎◌, List, [], ◌∷◌, length, get_or, ◌==◌, Decides, sym, refl, ap, subst, inl, inr, arith}
use Rattle.std.specs.Bool.{MatchBool}
use Rattle.std.specs.List.{list_any, zip, AllWithin, HoldsAt}
use mathlib.Core.List.Memᴰ
use mathlib.Core.List.{Memᴰ}
use native.Mathlib.Decide.{dec_lt}
use Rattle.std.proofs.lemmas.List.{get_or_past}
use Rattle.std.proofs.lemmas.Slice.Zip.{length-zip, get_or-zip}
use Rattle.std.proofs.lemmas.Bool.{false≢true}
use Rattle.std.proofs.lemmas.Bool.Decides.{Decides-at, Decides-eqb, Decides-like, Decides-or}
use Rattle.source.specs.declared.mark.Mark.{Mark}
use Rattle.source.specs.declared.mark.Mark.TheVariants.{Given, Free}
use Rattle.query.specs.declared.term.Term.{Term}
use Rattle.query.specs.declared.term.Term.TheVariants.{Constant, Variable}
use Rattle.ordering.specs.Literals.{Literal, no_literal, literal_at, Names, Proper, WellFormed}
use Rattle.ordering.specs.Orders.{Known, constant, variable, Ready}
use Rattle.ordering.specs.Picking.{SetIn, AllSet, Tells, is_variable_of, is_bound}
use Rattle.ordering.proofs.Members.{member_at}

same_term : (v : ℕ) (t : Term) → Decides (is_variable_of v t) (Variable v ≡ t)
same_term v (Constant value) = (λ e. absurd (false≢true e), λ e. cc)
same_term v (Variable u) = Decides-like (v == u) (ap Variable) (λ e. cc) (Decides-eqb v u)

-- the variable stands among the terms
among_decides : (v : ℕ) (terms : List Term) → Decides (list_any (is_variable_of v) terms) (Memᴰ (Variable v) terms)
among_decides v [] = (λ e. absurd (false≢true e), λ m. absurd (Memᴰ.not-nil m))
among_decides v (t ∷ ts) =
    Decides-like (is_variable_of v t || list_any (is_variable_of v) ts) (λ s. elim s [ inl e ↦ Memᴰ.head e | inr m ↦ Memᴰ.tail m ]) Memᴰ.cases_cons
    (Decides-or (is_variable_of v t) (list_any (is_variable_of v) ts) (same_term v t) (among_decides v ts))

-- marks and terms that are looked at side by side, up to the last of either
pub all_set : (bound : List Bool) (marks : List Mark) (terms : List Term) (r : Bool) →
    MatchBool r (AllWithin (λ p. p.0 ≡ Given → SetIn bound p.1) (zip marks terms) 0 (length (zip marks terms)))
    ((k : ℕ) × (k < length (zip marks terms)) × HoldsAt (λ p. (p.0 ≡ Given) × (SetIn bound p.1 → ⊥)) (zip marks terms) k) →
    Decides r (AllSet bound marks terms)
all_set bound marks terms true all = (λ e column h given. go column h given (dec_lt column (length terms)), λ s. refl)
  where
    go : (column : ℕ) → column < length marks → get_or marks column Free ≡ Given → Dec (column < length terms) → SetIn bound (get_or terms column (Constant 0))
    go column h given (yes l) =
        let both = get_or-zip marks terms column (Free, Constant 0) h l in
        let inside : column < length (zip marks terms) = omega (arith, length-zip marks terms) in
        rw both at (all column (Free, Constant 0) (omega arith) inside) given
    go column h given (no n) = rw (get_or_past terms column (Constant 0) (omega arith)) tt
all_set bound marks terms false (k, inside, unset) = (λ e. absurd (false≢true e), λ all. absurd (not_all all))
  where
    not_all : AllSet bound marks terms → ⊥
    not_all all =
        let h : k < length marks = omega (arith, length-zip marks terms) in
        let l : k < length terms = omega (arith, length-zip marks terms) in
        let here = rw (get_or-zip marks terms k (Free, Constant 0) h l) at (unset (Free, Constant 0)) in
        here.1 (all k h here.0)

module _ (literals : List Literal) where
  known_first : {place v : ℕ} {earlier : List ℕ} → Names (literal_at literals place) v ⊎ Known literals earlier (Variable v) → Known literals (place ∷ earlier) (Variable v)
  known_first {place} {v} (inl n) = variable v place (Memᴰ.head refl) n
  known_first (inr (variable v p m n)) = variable v p (Memᴰ.tail m) n

  known_cases : {place v : ℕ} {earlier : List ℕ} → Known literals (place ∷ earlier) (Variable v) → Names (literal_at literals place) v ⊎ Known literals earlier (Variable v)
  known_cases {place} {v} {earlier} (variable w p m n) = elim (Memᴰ.cases_cons m) [ inl e ↦ inl (subst (λ q. Names (literal_at literals q) w) e n) | inr t ↦ inr (variable w p t n) ]

  -- the variable stands in a literal at one of the places
  bound_decides : (earlier : List ℕ) (v : ℕ) → Decides (is_bound literals earlier v) (Known literals earlier (Variable v))
  bound_decides [] v = (λ e. absurd (false≢true e), λ k. absurd (none k))
    where
      none : Known literals [] (Variable v) → ⊥
      none (variable v place m n) = Memᴰ.not-nil m
  bound_decides (place ∷ earlier) v =
      let here = list_any (is_variable_of v) (literal_at literals place).terms in
      Decides-like (here || is_bound literals earlier v) known_first known_cases
      (Decides-or here (is_bound literals earlier v) (among_decides v (literal_at literals place).terms) (bound_decides earlier v))

  -- a term of a numbered variable, or a constant, is set just if it is known
  set_decides : (taken : List ℕ) (bound : List Bool) (t : Term) → ((v : ℕ) → t ≡ Variable v → v < 16) → Tells literals taken bound → (SetIn bound t → Known literals taken t) × (Known literals taken t → SetIn bound t)
  set_decides taken bound (Constant value) n tells = (λ s. constant value, λ k. tt)
  set_decides taken bound (Variable v) n tells = Decides-at (get_or bound v false) (is_bound literals taken v) (tells v (n v refl)) (bound_decides taken v)

  -- each literal is proper, and past the last one there are no columns
  proper_at : WellFormed literals → (place : ℕ) → Proper (literal_at literals place)
  proper_at w place = go (dec_lt place (length literals))
    where
      go : Dec (place < length literals) → Proper (literal_at literals place)
      go (yes h) = w.proper place h
      go (no n) = rw (get_or_past literals place no_literal (omega arith)) (record { paired = refl; numbered = λ v m. absurd (Memᴰ.not-nil m) })

  -- what the table says of a literal's columns is whether the literal is ready
  pub ready_decided : WellFormed literals → (taken : List ℕ) (bound : List Bool) (place : ℕ) (marks : List Mark) (terms : List Term) (r : Bool) → Tells literals taken bound → marks ≡ (literal_at literals place).marks → terms ≡ (literal_at literals place).terms → Decides r (AllSet bound marks terms) → Decides r (Ready literals taken (literal_at literals place))
  ready_decided w taken bound place marks terms r tells m t d =
      Decides-like r (λ all column h g. (set column h).0 (all column h g)) (λ ready column h g. (set column h).1 (ready column h g)) all
    where
      literal : Literal
      literal = literal_at literals place

      all : Decides r (AllSet bound literal.marks literal.terms)
      all = subst (λ z. Decides r (AllSet bound z literal.terms)) m (subst (λ z. Decides r (AllSet bound marks z)) t d)

      term : ℕ → Term
      term column = get_or literal.terms column (Constant 0)

      set : (column : ℕ) → column < length literal.marks → (SetIn bound (term column) → Known literals taken (term column)) × (Known literals taken (term column) → SetIn bound (term column))
      set column h =
          let p = proper_at w place in
          set_decides taken bound (term column) (λ v e. p.numbered v (Memᴰ.cast (sym e) (member_at literal.terms column (Constant 0) (omega (arith, p.paired))))) tells
