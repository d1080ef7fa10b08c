-- Results and names, as far as a PDU can hold them.
use Rattle.std.proofs.Common.{◌≡◌, ◌≤◌, ◌<◌, ℕ, zero, suc, ◌+◌, ◌-◌, Bool, true, false, List, [], ◌∷◌, ◌++◌, length, map, take, drop, get_or, refl, sym, ap, ap₂, ◌∙◌, arith, length-append, append_assoc, append-nil}
use Rattle.std.specs.Prelude.{if◌then◌else◌, nat_le, nat_lt, min, None, Some, Result}
use Rattle.std.specs.List.{flat_map}
use Rattle.std.proofs.lemmas.Bool.{leb-true, leb-false, lt-ltb, le-ltb}
use Rattle.std.proofs.lemmas.Bool.Decides.{nat_tests}
use Rattle.std.proofs.lemmas.List.{drop_all}
use Rattle.sv_base.specs.declared.value.Value.{Value}
use Rattle.bay_model.specs.Sizes.{access_result, identifier, within}
use Rattle.bay_replies.specs.Held.{left_of, held_within}

-- ---- what is left

pub none-left : (left n : ℕ) → left_of left n ≡ None → left < n
none-left left n is = by (nat_le n left) refl is
  where
    by : (t : Bool) → nat_le n left ≡ t → (if t then Some (left - n) else None) ≡ None → left < n
    by true h is = absurd cc
    by false h is = leb-false n left h

pub some-left : (left n rest : ℕ) → left_of left n ≡ Some rest → (n ≤ left) × (rest ≡ left - n)
some-left left n rest is = by (nat_le n left) refl is
  where
    by : (t : Bool) → nat_le n left ≡ t → (if t then Some (left - n) else None) ≡ Some rest → (n ≤ left) × (rest ≡ left - n)
    by true h is = (leb-true n left h, cc)
    by false h is = absurd cc

-- ---- names

take-one : {A : Type 0} (xs : List A) (k : ℕ) (x : A) → k < length xs → x ≡ get_or xs k x → take (k + 1) xs ≡ take k xs ++ x ∷ []
take-one [] k x below is = absurd (omega (arith, below))
take-one (y ∷ ys) zero x below is = ap (λ z. z ∷ []) (sym is)
take-one (y ∷ ys) (suc k) x below is = let next : suc k + 1 ≡ suc (k + 1) = omega arith in ap (λ j. take j (y ∷ ys)) next ∙ ap (λ l. y ∷ l) (take-one ys k x (omega (arith, below)) is)

pub drop-one : {A : Type 0} (xs : List A) (k : ℕ) (x : A) → k < length xs → x ≡ get_or xs k x → drop k xs ≡ x ∷ drop (k + 1) xs
drop-one [] k x below is = absurd (omega (arith, below))
drop-one (y ∷ ys) zero x below is = ap (λ z. z ∷ ys) (sym is)
drop-one (y ∷ ys) (suc k) x below is = let next : suc (k + 1) ≡ suc k + 1 = omega arith in drop-one ys k x (omega (arith, below)) is ∙ ap (λ j. x ∷ drop j (y ∷ ys)) next

module _ (size left k : ℕ) (names : List (List ℕ)) (name : List ℕ) (below : k < length names) (is : name ≡ get_or names k name) (held : take k names ++ within left (drop k names) ≡ within size names) where
  parted : (t : Bool) → nat_le (length (identifier name)) left ≡ t → take k names ++ (name ∷ (if t then within (left - length (identifier name)) (drop (k + 1) names) else [])) ≡ within size names
  parted t h = ap (λ u. take k names ++ (name ∷ (if u then within (left - length (identifier name)) (drop (k + 1) names) else []))) (sym h) ∙ (ap (λ l. take k names ++ within left l) (sym (drop-one names k name below is)) ∙ held)

  pub name-last : left_of left (length (identifier name)) ≡ None → take (k + 1) names ≡ within size names
  name-last none = take-one names k name below is ∙ parted false (by (nat_le (length (identifier name)) left) none)
    where
      by : (t : Bool) → (if t then Some (left - length (identifier name)) else None) ≡ None → t ≡ false
      by true e = absurd cc
      by false e = refl

  pub name-next : (rest : ℕ) → left_of left (length (identifier name)) ≡ Some rest → take (k + 1) names ++ within rest (drop (k + 1) names) ≡ within size names
  name-next rest some =
      ap₂ (λ l r. l ++ within r (drop (k + 1) names)) (take-one names k name below is) (some-left left (length (identifier name)) rest some).1
      ∙ (append_assoc (take k names) (name ∷ []) (within (left - length (identifier name)) (drop (k + 1) names))
      ∙ parted true (by (nat_le (length (identifier name)) left) some))
    where
      by : (t : Bool) → (if t then Some (left - length (identifier name)) else None) ≡ Some rest → t ≡ true
      by true e = refl
      by false e = absurd cc

pub all-held : (size left k : ℕ) (names : List (List ℕ)) → length names ≤ k → take k names ++ within left (drop k names) ≡ within size names → take k names ≡ within size names
all-held size left k names past held = sym (append-nil (take k names)) ∙ (ap (λ l. take k names ++ within left l) (sym (drop_all k names past)) ∙ held)

-- ---- results

abbrev pub octets : List (Result Value ℕ) → List ℕ
octets rs = flat_map access_result rs

length-both : (xs ys : List (Result Value ℕ)) → length (octets (xs ++ ys)) ≡ length (octets xs) + length (octets ys)
length-both [] ys = omega arith
length-both (x ∷ xs) ys = omega (arith, length-append (access_result x) (octets (xs ++ ys)), length-append (access_result x) (octets xs), length-both xs ys)

-- done are read, left is what is left after them
module _ {A : Type 0} (f : A → Result Value ℕ) (size left k : ℕ) (xs : List A) (done : List (Result Value ℕ)) (are : done ++ map f (drop k xs) ≡ map f xs) (count : length (octets done) + left ≡ size) where
  pub too-much : (x : A) (one : Result Value ℕ) → k < length xs → x ≡ get_or xs k x → one ≡ f x → left_of left (length (access_result one)) ≡ None → held_within size (map f xs) ≡ None
  too-much x one below is same none =
      let over = none-left left (length (access_result one)) none in
      let all : map f xs ≡ done ++ (one ∷ map f (drop (k + 1) xs)) = sym are ∙ (ap (λ l. done ++ map f l) (drop-one xs k x below is) ∙ ap (λ o. done ++ (o ∷ map f (drop (k + 1) xs))) (sym same)) in
      let long : size < length (octets (map f xs)) = omega (arith, over, count, ap (λ l. length (octets l)) all, length-both done (one ∷ map f (drop (k + 1) xs)), length-append (access_result one) (octets (map f (drop (k + 1) xs)))) in
      ap (λ t. if t then None else Some (map f xs)) (lt-ltb size (length (octets (map f xs))) long)

  pub read-next : (x : A) (one : Result Value ℕ) (rest : ℕ) → k < length xs → x ≡ get_or xs k x → one ≡ f x → left_of left (length (access_result one)) ≡ Some rest
      → ((done ++ one ∷ []) ++ map f (drop (k + 1) xs) ≡ map f xs) × (length (octets (done ++ one ∷ [])) + rest ≡ size)
  read-next x one rest below is same some =
      let fits = some-left left (length (access_result one)) rest some in (
        append_assoc done (one ∷ []) (map f (drop (k + 1) xs)) ∙ (ap (λ o. done ++ (o ∷ map f (drop (k + 1) xs))) same ∙ (ap (λ l. done ++ map f l) (sym (drop-one xs k x below is)) ∙ are)),
        omega (arith, fits.0, fits.1, count, length-both done (one ∷ []), length-append (access_result one) []),
      )

  pub all-read : length xs ≤ k → held_within size (map f xs) ≡ Some done
  all-read past =
      let all : map f xs ≡ done = sym are ∙ (ap (λ l. done ++ map f l) (drop_all k xs past) ∙ append-nil done) in
      let short : length (octets (map f xs)) ≤ size = omega (arith, count, ap (λ l. length (octets l)) all) in
      ap (λ t. if t then None else Some (map f xs)) (le-ltb size (length (octets (map f xs))) short) ∙ ap Some all

-- sum is how many octets they have so far, and 4294967295 where there are more
module _ (rs : List (Result Value ℕ)) (k sum : ℕ) (are : min (sum + length (octets (drop k rs))) 4294967295 ≡ min (length (octets rs)) 4294967295) where
  pub sum-next : (one : Result Value ℕ) (next : ℕ) → k < length rs → one ≡ get_or rs k one → next ≡ min (sum + min (length (access_result one)) 4294967295) 4294967295
      → min (next + length (octets (drop (k + 1) rs))) 4294967295 ≡ min (length (octets rs)) 4294967295
  sum-next one next below is same =
      let all : length (octets (drop k rs)) ≡ length (octets (one ∷ drop (k + 1) rs)) = ap (λ l. length (octets l)) (drop-one rs k one below is) in
      omega (arith, are, same, all, length-append (access_result one) (octets (drop (k + 1) rs)))

  pub sum-all : (size : ℕ) → length rs ≤ k → sum ≤ 4294967295 → size < 4294967295 → nat_lt size sum ≡ nat_lt size (length (octets rs))
  sum-all size past fits small =
      let none : length (octets (drop k rs)) ≡ 0 = ap (λ l. length (octets l)) (drop_all k rs past) in
      grind (arith, nat_tests, are, none, fits, small)
