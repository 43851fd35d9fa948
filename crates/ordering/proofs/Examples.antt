-- Picking in the queries that are written out.
use Rattle.std.proofs.Common.{◌≡◌, ℕ, zero, suc, ◌<◌, List, [], ◌∷◌, get_or, take, refl, subst, inl, inr, le_of_suc-le-suc, not-suc-le-zero, arith}
use mathlib.Core.List.Memᴰ
use mathlib.Core.List.{Memᴰ}
use Rattle.source.specs.declared.mark.Mark.{Mark}
use Rattle.source.specs.declared.mark.Mark.TheVariants.{Given, Free}
use Rattle.query.specs.declared.term.Term.{Term}
use Rattle.query.specs.declared.term.Term.TheVariants.{Constant, Variable}
use Rattle.ordering.specs.Literals.{Literal, literal_at, Names}
use Rattle.ordering.specs.Orders.{Known, constant, variable, Ready, First, Unordered}
use Rattle.ordering.specs.Picking.{Next, Picks, Stuck}
use Rattle.ordering.specs.Worked.{pack, batch, notices_of_pack, modules_of_any_pack}
use Rattle.ordering.proofs.Theorems.{picked_first, picked_unordered}

free_not_given : ◌≡◌ {A = Mark} Free Given → ⊥
free_not_given e = let z : ◌≡◌ {A = ℕ} 0 1 = cc in omega arith

unknown_at_first : {literals : List Literal} {v : ℕ} → Known literals [] (Variable v) → ⊥
unknown_at_first (variable v place m n) = Memᴰ.not-nil m

-- a literal that asks for its first column alone is ready once that is known
pack_ready : {literals : List Literal} {earlier : List ℕ} {t : Term} (u : Term) → Known literals earlier t → Ready literals earlier (pack t u)
pack_ready u k zero l g = k
pack_ready u k (suc zero) l g = absurd (free_not_given g)
pack_ready u k (suc (suc column)) l g = absurd (free_not_given g)

batch_ready : {literals : List Literal} {earlier : List ℕ} {t : Term} (u w : Term) → Known literals earlier t → Ready literals earlier (batch t u w)
batch_ready u w k zero l g = k
batch_ready u w k (suc zero) l g = absurd (free_not_given g)
batch_ready u w k (suc (suc zero)) l g = absurd (free_not_given g)
batch_ready u w k (suc (suc (suc column))) l g = absurd (free_not_given g)

no_batch_in_pack : Names (pack (Constant 1007) (Variable 2)) 1 → ⊥
no_batch_in_pack m =
    elim (Memᴰ.cases_cons m) [
      | inl e ↦ let z : ◌≡◌ {A = ℕ} 0 1 = cc in omega arith
      | inr t ↦ let e = Memᴰ.eq_of_singleton t in let z : ◌≡◌ {A = ℕ} 1 2 = cc in omega arith
    ]

batch_unknown : Known notices_of_pack (2 ∷ []) (Variable 1) → ⊥
batch_unknown (variable v place m n) = no_batch_in_pack (subst (λ p. Names (literal_at notices_of_pack p) 1) (Memᴰ.eq_of_singleton m) n)

pack_first : Picks notices_of_pack [] 2
pack_first = record { within = omega arith; next = record { fresh = Memᴰ.not-nil; ready = pack_ready (Variable 2) (constant 1007) }; lowest = lower }
  where
    lower : (place : ℕ) → place < 2 → Next notices_of_pack [] place → ⊥
    lower zero h n = unknown_at_first (n.ready 0 (omega arith) refl)
    lower (suc zero) h n = unknown_at_first (n.ready 0 (omega arith) refl)
    lower (suc (suc place)) h n = not-suc-le-zero (le_of_suc-le-suc (le_of_suc-le-suc h))

batch_second : Picks notices_of_pack (2 ∷ []) 1
batch_second = record {
  within = omega arith;
  next = record {
    fresh = λ m. let e = Memᴰ.eq_of_singleton m in omega arith;
    ready = batch_ready (Variable 1) (Variable 3) (variable 2 2 (Memᴰ.head refl) (Memᴰ.tail (Memᴰ.head refl)));
  };
  lowest = lower;
}
  where
    lower : (place : ℕ) → place < 1 → Next notices_of_pack (2 ∷ []) place → ⊥
    lower zero h n = batch_unknown (n.ready 0 (omega arith) refl)
    lower (suc place) h n = not-suc-le-zero (le_of_suc-le-suc h)

recall_third : Picks notices_of_pack (2 ∷ 1 ∷ []) 0
recall_third = record {
  within = omega arith;
  next = record {
    fresh = λ m. elim (Memᴰ.cases_cons m) [ inl e ↦ omega arith | inr t ↦ let e = Memᴰ.eq_of_singleton t in omega arith ];
    ready = pack_ready (Variable 0) (variable 1 1 (Memᴰ.tail (Memᴰ.head refl)) (Memᴰ.tail (Memᴰ.head refl)));
  };
  lowest = λ place h n. not-suc-le-zero h;
}

pub first_of_notices : First notices_of_pack (2 ∷ 1 ∷ 0 ∷ [])
first_of_notices = picked_first picked all
  where
    picked : (i : ℕ) → i < 3 → Picks notices_of_pack (take i (2 ∷ 1 ∷ 0 ∷ [])) (get_or (2 ∷ 1 ∷ 0 ∷ []) i 0)
    picked zero h = pack_first
    picked (suc zero) h = batch_second
    picked (suc (suc zero)) h = recall_third
    picked (suc (suc (suc i))) h = absurd (not-suc-le-zero (le_of_suc-le-suc (le_of_suc-le-suc (le_of_suc-le-suc h))))

    all : (place : ℕ) → place < 3 → Memᴰ place (2 ∷ 1 ∷ 0 ∷ [])
    all zero h = Memᴰ.tail (Memᴰ.tail (Memᴰ.head refl))
    all (suc zero) h = Memᴰ.tail (Memᴰ.head refl)
    all (suc (suc zero)) h = Memᴰ.head refl
    all (suc (suc (suc place))) h = absurd (not-suc-le-zero (le_of_suc-le-suc (le_of_suc-le-suc (le_of_suc-le-suc h))))

pub modules_unordered : Unordered modules_of_any_pack 0
modules_unordered =
    picked_unordered {order = []} (λ i h. absurd (not-suc-le-zero h)) stuck (record { within = omega arith; fresh = Memᴰ.not-nil; lowest = λ lower h. absurd (not-suc-le-zero h) })
  where
    stuck : Stuck modules_of_any_pack []
    stuck zero h n = unknown_at_first (n.ready 0 (omega arith) refl)
    stuck (suc place) h n = not-suc-le-zero (le_of_suc-le-suc h)
