-- Giving answers to a list, one after another.
use Rattle.std.proofs.Common.{◌≡◌, ℕ, zero, suc, ◌+◌, ◌-◌, ◌*◌, ◌<◌, ◌≤◌, true, false, ◌⊎◌, List, [], ◌∷◌, get_or, drop, sym, refl, ap, ◌∙◌, subst, inl, inr, arith}
use Rattle.std.proofs.lemmas.Bool.{or_cases, or_left, or_right, true≢false, cases_Bool}
use Rattle.std.specs.List.{insert}
use Rattle.std.proofs.lemmas.List.{drop-drop}
use Rattle.std.proofs.lemmas.List.Edits.{length-insert}
use Rattle.source.specs.Rows.{same, before, is_in, ascending}
use Rattle.source.proofs.Rows.{same_eq, eq_same, ascending_tail}
use Rattle.source.proofs.Chunks.{length_rows_in}
use Rattle.listing.specs.Answers.{answers, Belongs, Listing, listed, Added, listed_before, listed_now, no_place}
use Rattle.listing.specs.Gathering.{TooMany, Gathered}
use Rattle.listing.proofs.Ascents.{in_inserted, ascending_inserted}
use Rattle.listing.proofs.Comparing.{one_before}

-- nothing was given
pub none_gathered : (l : Listing) (P : List ℕ → Type 0) → ((row : List ℕ) → P row → ⊥) → Gathered l l P
none_gathered l P never = record {
  places = refl;
  more = omega arith;
  kept = λ row h. h;
  sound = λ row h. inl h;
  complete = λ c row p. absurd (never row p);
  still = λ c. c;
  crowd = λ c. inl c;
  behind = refl;
  beyond = refl;
}

-- what was given, said otherwise
pub gathered_as : (old new : Listing) (P Q : List ℕ → Type 0) → ((row : List ℕ) → P row → Q row) → ((row : List ℕ) → Q row → P row) → Gathered old new P → Gathered old new Q
gathered_as old new P Q f g h = record {
  places = h.places;
  more = h.more;
  kept = h.kept;
  sound = λ row x. elim (h.sound row x) [ inl a ↦ inl a | inr b ↦ inr (f row b) ];
  complete = λ c row q. h.complete c row (g row q);
  still = h.still;
  crowd = λ c. elim (h.crowd c) [ inl a ↦ inl a | inr t ↦ inr (record { rows = t.rows; many = t.many; ascends = t.ascends; each = λ row x. elim (t.each row x) [ inl a ↦ inl a | inr b ↦ inr (f row b) ] }) ];
  behind = h.behind;
  beyond = h.beyond;
}

further : (m n : ℕ) (after old : List ℕ) → m ≤ n → drop (4 * m) after ≡ drop (4 * m) old → drop (4 * n) after ≡ drop (4 * n) old
further m n after old l e =
    let k : 4 * m + (4 * n - 4 * m) ≡ 4 * n = omega arith in
    ap (λ (x : ℕ). drop x after) (sym k) ∙ (sym (drop-drop (4 * n - 4 * m) (4 * m) after)
    ∙ (ap (λ (x : List ℕ). drop (4 * n - 4 * m) x) e ∙ (drop-drop (4 * n - 4 * m) (4 * m) old ∙ ap (λ (x : ℕ). drop x old) k)))

-- some were given, and then others
module _ (a b c : Listing) (P Q R : List ℕ → Type 0) (f : (row : List ℕ) → P row → R row) (g : (row : List ℕ) → Q row → R row) (split : (row : List ℕ) → R row → P row ⊎ Q row)
    (p : Gathered a b P) (q : Gathered b c Q) where
  from_first : (row : List ℕ) → is_in row (listed b) ≡ true → (is_in row (listed a) ≡ true) ⊎ R row
  from_first row h = elim (p.sound row h) [ inl x ↦ inl x | inr y ↦ inr (f row y) ]

  too_many_then : TooMany b.places (listed b) Q → TooMany a.places (listed a) R
  too_many_then t = record {
    rows = t.rows;
    many = t.many ∙ ap (λ (n : ℕ). n + 1) p.places;
    ascends = t.ascends;
    each = λ row x. elim (t.each row x) [ inl y ↦ from_first row y | inr z ↦ inr (g row z) ];
  }

  too_many_first : TooMany a.places (listed a) P → TooMany a.places (listed a) R
  too_many_first t = record { rows = t.rows; many = t.many; ascends = t.ascends; each = λ row x. elim (t.each row x) [ inl y ↦ inl y | inr z ↦ inr (f row z) ] }

  first_not_crowded : c.crowded ≡ false → b.crowded ≡ false
  first_not_crowded e = elim (cases_Bool b.crowded) [ inl t ↦ absurd (true≢false (sym (q.still t) ∙ e)) | inr n ↦ n ]

  pub gathered_then : Gathered a c R
  gathered_then = record {
    places = q.places ∙ p.places;
    more = omega (arith, p.more, q.more);
    kept = λ row h. q.kept row (p.kept row h);
    sound = λ row h. elim (q.sound row h) [ inl x ↦ from_first row x | inr y ↦ inr (g row y) ];
    complete = λ e row r. elim (split row r) [ inl x ↦ q.kept row (p.complete (first_not_crowded e) row x) | inr y ↦ q.complete e row y ];
    still = λ e. q.still (p.still e);
    crowd = λ e. elim (q.crowd e) [
      | inl x ↦ elim (p.crowd x) [ inl y ↦ inl y | inr t ↦ inr (too_many_first t) ]
      | inr t ↦ inr (too_many_then t)
    ];
    behind = q.behind ∙ further b.count c.count b.memory a.memory q.more p.behind;
    beyond = subst (λ (n : ℕ). drop (4 * n) c.memory ≡ drop (4 * n) b.memory) p.places q.beyond ∙ p.beyond;
  }

-- a row that is not among ascending rows belongs somewhere between them
find_place : (rows : List (List ℕ)) (row : List ℕ) → ascending rows ≡ true → (is_in row rows ≡ true → ⊥) → (place : ℕ) × Belongs rows row place
find_place [] row asc out = (0, record { inside = omega arith; above = λ k h. absurd (omega arith); below = refl })
find_place (r ∷ rs) row asc out = go (cases_Bool (before row r)) (find_place rs row (ascending_tail r rs asc) (λ i. out (or_right (same row r) (is_in row rs) i)))
  where
    next : (place : ℕ) → before r row ≡ true → Belongs rs row place → (k : ℕ) → k < suc place → before (get_or (r ∷ rs) k []) row ≡ true
    next place b p zero h = b
    next place b p (suc k) h = p.above k (omega arith)

    go : (before row r ≡ true) ⊎ (before row r ≡ false) → ((place : ℕ) × Belongs rs row place) → (place : ℕ) × Belongs (r ∷ rs) row place
    go (inl b) p = (0, record { inside = omega arith; above = λ k h. absurd (omega arith); below = b })
    go (inr n) p =
        let b : before r row ≡ true = one_before r row (λ s. out (or_left (same row r) (is_in row rs) (eq_same row r (sym (same_eq r row s))))) (λ c. true≢false (sym c ∙ n)) in
        (suc p.0, record { inside = (let i = p.1.inside in omega arith); above = next p.0 b p.1; below = p.1.below })

-- one answer was given
pub one_gathered : (answer : List ℕ) (old new : Listing) → new.count ≤ old.places → ascending (listed old) ≡ true → Added answer old new → Gathered old new (λ row. row ≡ answer)
one_gathered answer old new within asc (listed_before there same) =
    subst (λ (l : Listing). Gathered old l (λ row. row ≡ answer)) (sym same) (record {
      places = refl;
      more = omega arith;
      kept = λ row h. h;
      sound = λ row h. inl h;
      complete = λ c row e. subst (λ (r : List ℕ). is_in r (listed old) ≡ true) (sym e) there;
      still = λ c. c;
      crowd = λ c. inl c;
      behind = refl;
      beyond = refl;
    })
one_gathered answer old new within asc (listed_now absent same_places one_more members behind same_crowded) = record {
  places = same_places;
  more = omega arith;
  kept = λ row h. members row ∙ or_right (same row answer) (is_in row (listed old)) h;
  sound = λ row h. elim (or_cases (same row answer) (is_in row (listed old)) (sym (members row) ∙ h)) [ inl e ↦ inr (same_eq row answer e) | inr m ↦ inl m ];
  complete = λ c row e. members row ∙ or_left (same row answer) (is_in row (listed old)) (eq_same row answer e);
  still = λ c. same_crowded ∙ c;
  crowd = λ c. inl (sym same_crowded ∙ c);
  behind = behind;
  beyond = further new.count old.places new.memory old.memory within behind;
}
one_gathered answer old new within asc (no_place absent full same_places same_memory same_count now_crowded) = record {
  places = same_places;
  more = omega arith;
  kept = λ row h. subst (λ (l : List (List ℕ)). is_in row l ≡ true) (sym rows_same) h;
  sound = λ row h. inl (subst (λ (l : List (List ℕ)). is_in row l ≡ true) rows_same h);
  complete = λ c row e. absurd (true≢false (sym now_crowded ∙ c));
  still = λ c. now_crowded;
  crowd = λ c. inr one_too_many;
  behind = ap (λ (m : List ℕ). drop (4 * new.count) m) same_memory;
  beyond = ap (λ (m : List ℕ). drop (4 * old.places) m) same_memory;
}
  where
    rows_same : listed new ≡ listed old
    rows_same = ap (λ (n : ℕ). answers n new.memory) same_count ∙ ap (answers old.count) same_memory

    place : (at : ℕ) × Belongs (listed old) answer at
    place = find_place (listed old) answer asc (λ i. true≢false (sym i ∙ absent))

    one_too_many : TooMany old.places (listed old) (λ row. row ≡ answer)
    one_too_many = record {
      rows = insert (listed old) place.0 answer;
      many = length-insert (listed old) place.0 answer place.1.inside ∙ ap (λ (n : ℕ). n + 1) (length_rows_in 4 old.count old.memory ∙ full);
      ascends = ascending_inserted place.0 (listed old) answer asc place.1;
      each = λ row x. elim (or_cases (same row answer) (is_in row (listed old)) (sym (in_inserted place.0 (listed old) answer row) ∙ x)) [ inl e ↦ inr (same_eq row answer e) | inr m ↦ inl m ];
    }
