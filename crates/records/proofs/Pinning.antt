-- Pins of three bytes each, as `as_chunks` takes them.
use Rattle.std.proofs.Common.{◌≡◌, ℕ, zero, suc, ◌+◌, ◌/◌, ◌<◌, ◌≤◌, Bool, true, false, cond, ◌&&◌, List, [], ◌∷◌, map, length, get_or, IsSomeAnd, MatchOption, Some, None, Option, refl, sym, ap, ◌∙◌, arith, nat_eq, nat_le, nat_lt, inl, inr, Bor}
use Rattle.std.proofs.lemmas.Bool.{and_cases, and_left, and_parts, and_right, le-leb, lt-leb, lt-ltb, ltb-true, ltb-false}
use Rattle.std.specs.List.{AllAdjacentBelow, IsAllAdjacentAnswer, find}
use Rattle.std.specs.Option.{option_map}
use Rattle.std.specs.Simd.{first_chunks}
use Rattle.records.specs.Letters.{number_of_bytes}
use Rattle.records.specs.Records.{PinAt, pins_of, pin_at, pins_right, rising_from}

-- where a pin stands
abbrev pub place_by : List ℕ → ℕ
place_by pin = number_of_bytes (get_or pin 0 0) (get_or pin 1 0)

abbrev pub pin_by : List ℕ → PinAt
pin_by pin = record { place = place_by pin; code = get_or pin 2 0 }

-- bytes over at the end make no pin
pins_by_chunks : (bytes : List ℕ) → pins_of bytes ≡ map pin_by (first_chunks 3 (length bytes / 3) bytes)
pins_by_chunks [] = refl
pins_by_chunks (low ∷ []) = refl
pins_by_chunks (low ∷ high ∷ []) = refl
pins_by_chunks (low ∷ high ∷ code ∷ bytes) =
    let more : suc (length bytes / 3) ≡ length (low ∷ high ∷ code ∷ bytes) / 3 = omega arith in
    ap (λ ps. pin_by (low ∷ high ∷ code ∷ []) ∷ ps) (pins_by_chunks bytes)
    ∙ ap (λ n. map pin_by (first_chunks 3 n (low ∷ high ∷ code ∷ bytes))) more

-- whether the first pin, if there is one, stands below the width
abbrev pub starts_below : ℕ → List (List ℕ) → Bool
starts_below width [] = true
starts_below width (x ∷ pins) = nat_lt (place_by x) width

-- whether a pin stands above the one before it, and below the width
abbrev pub stands_after : ℕ → List ℕ → List ℕ → Bool
stands_after width x y = nat_lt (place_by x) (place_by y) && nat_lt (place_by y) width

module _ (width : ℕ) where
  -- the same two pins, counted from the second pin on
  onward : (x : List ℕ) (pins : List (List ℕ)) (k : ℕ) (d : List ℕ) →
      stands_after width (get_or (x ∷ pins) (suc k) d) (get_or (x ∷ pins) (suc k + 1) d) ≡ stands_after width (get_or pins k d) (get_or pins (k + 1) d)
  onward x pins k d = let next : suc k + 1 ≡ suc (k + 1) = omega arith in ap (λ i. stands_after width (get_or pins k d) (get_or (x ∷ pins) i d)) next

  -- places that rise below the width are right where the first is
  rising : (least : ℕ) (pins : List (List ℕ)) → AllAdjacentBelow (λ x y. true ≡ stands_after width x y) pins (length pins) → least ≤ place_by (get_or pins 0 []) →
      rising_from width least (map pin_by pins) ≡ starts_below width pins && true
  rising least [] rise h = refl
  rising least (x ∷ []) rise h = rw (le-leb least (place_by x) h)
  rising least (x ∷ y ∷ pins) rise h =
      let after = and_parts _ _ (sym (rise 0 [] (omega arith))) in
      let less = ltb-true (place_by x) (place_by y) after.0 in
      rw (le-leb least (place_by x) h, rising (place_by x + 1) (y ∷ pins) (λ k d l. rise (suc k) d (omega arith) ∙ onward x (y ∷ pins) k d) (omega (arith, less)), after.1)

  -- a place that is not above the one before it, or not below the width, is wrong
  not_after : (x y : List ℕ) → stands_after width x y ≡ false → nat_le (place_by x + 1) (place_by y) && nat_lt (place_by y) width ≡ false
  not_after x y e = elim (and_cases (nat_lt (place_by x) (place_by y)) (nat_lt (place_by y) width) e) [
    | inl above ↦ and_left _ _ (lt-leb (place_by x + 1) (place_by y) (omega (arith, ltb-false (place_by x) (place_by y) above)))
    | inr below ↦ and_right _ _ below
  ]

  falling : (least : ℕ) (pins : List (List ℕ)) (k : ℕ) → k + 1 < length pins → ((d : List ℕ) → false ≡ stands_after width (get_or pins k d) (get_or pins (k + 1) d)) →
      rising_from width least (map pin_by pins) ≡ false
  falling least [] k h e = absurd (omega arith)
  falling least (x ∷ []) k h e = absurd (omega arith)
  falling least (x ∷ y ∷ pins) zero h e = and_right _ _ (and_left _ _ (not_after x y (sym (e []))))
  falling least (x ∷ y ∷ pins) (suc k) h e = and_right _ _ (falling (place_by x + 1) (y ∷ pins) k (omega arith) (λ d. e d ∙ onward x (y ∷ pins) k d))

  sorted_or_not : (pins : List (List ℕ)) (sorted : Bool) → IsAllAdjacentAnswer (λ x y b. b ≡ stands_after width x y) pins sorted →
      rising_from width 0 (map pin_by pins) ≡ starts_below width pins && sorted
  sorted_or_not pins true rise = rising 0 pins rise (omega arith)
  sorted_or_not pins false (k, h, e) = falling 0 pins k h e ∙ sym (and_right (starts_below width pins) false refl)

  pub pins_sorted : (bytes : List ℕ) (chunks : List (List ℕ)) (sorted : Bool) → chunks ≡ first_chunks 3 (length bytes / 3) bytes →
      IsAllAdjacentAnswer (λ x y b. b ≡ stands_after width x y) chunks sorted → pins_right width bytes ≡ starts_below width chunks && sorted
  pins_sorted bytes chunks sorted are rise =
      ap (rising_from width 0) (pins_by_chunks bytes ∙ ap (map pin_by) (sym are)) ∙ sorted_or_not chunks sorted rise

  -- the same where there is a first pin, and it stands below the width
  pub pins_rise : (bytes : List ℕ) (chunks : List (List ℕ)) (sorted : Bool) → chunks ≡ first_chunks 3 (length bytes / 3) bytes →
      IsAllAdjacentAnswer (λ x y b. b ≡ stands_after width x y) chunks sorted → 1 ≤ length chunks → place_by (get_or chunks 0 []) < width → sorted ≡ pins_right width bytes
  pins_rise bytes chunks sorted are rise some first =
      sym (pins_sorted bytes chunks sorted are rise ∙ ap (λ b. b && sorted) (starts chunks some first))
    where
      starts : (pins : List (List ℕ)) → 1 ≤ length pins → place_by (get_or pins 0 []) < width → starts_below width pins ≡ true
      starts [] h below = absurd (omega arith)
      starts (x ∷ pins) h below = lt-ltb (place_by x) width below

-- the code of the first pin at a place
pin_found : (place : ℕ) (chunks : List (List ℕ)) →
    pin_at place (map pin_by chunks) ≡ option_map (λ chunk. get_or chunk 2 0) (find (λ chunk. nat_eq (place_by chunk) place) chunks)
pin_found place [] = refl
pin_found place (chunk ∷ chunks) = here_or_on (nat_eq (place_by chunk) place) _ _ (pin_found place chunks)
  where
    here_or_on : (b : Bool) (o : Option ℕ) (found : Option (List ℕ)) → o ≡ option_map (λ chunk'. get_or chunk' 2 0) found →
        cond b (Some (get_or chunk 2 0)) o ≡ option_map (λ chunk'. get_or chunk' 2 0) (cond b (Some chunk) found)
    here_or_on true o found e = refl
    here_or_on false o found e = e

-- what `map` makes of an option, where each call gives f
pub mapped : {A B : Type 0} (o : Option A) (r : Option B) (f : A → B) (P : A → B → Type 0) → MatchOption o (r ≡ None) (λ x. IsSomeAnd r (P x)) →
    ((x : A) (y : B) → P x y → y ≡ f x) → r ≡ option_map f o
mapped None r f P m h = m
mapped (Some x) None f P m h = absurd m
mapped (Some x) (Some y) f P m h = ap Some (h x y m)

pub pin_read : (place : ℕ) (bytes : List ℕ) (chunks : List (List ℕ)) (found : Option (Bor (List ℕ))) → chunks ≡ first_chunks 3 (length bytes / 3) bytes →
    option_map (λ chunk. chunk.now) found ≡ find (λ chunk. nat_eq (place_by chunk) place) chunks → option_map (λ chunk. get_or chunk.now 2 0) found ≡ pin_at place (pins_of bytes)
pin_read place bytes chunks found are is =
    code_of found ∙ ap (option_map (λ chunk. get_or chunk 2 0)) is ∙ sym (pin_found place chunks)
    ∙ ap (pin_at place) (ap (map pin_by) are ∙ sym (pins_by_chunks bytes))
  where
    code_of : (o : Option (Bor (List ℕ))) → option_map (λ chunk. get_or chunk.now 2 0) o ≡ option_map (λ chunk. get_or chunk 2 0) (option_map (λ chunk. chunk.now) o)
    code_of None = refl
    code_of (Some chunk) = refl
