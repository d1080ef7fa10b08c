-- Names, as many as fit.
use Rattle.std.proofs.Common.{◌≡◌, ℕ, ◌+◌, ◌<◌, ◌≤◌, Bool, true, false, List, [], ◌∷◌, ◌++◌, length, take, drop, get_or, refl, sym, ap, subst, ◌∙◌, append_assoc, arith, Some, None}
use Rattle.std.specs.Prelude.{if◌then◌else◌, nat_le, nat_lt}
use Rattle.std.proofs.lemmas.Bool.{le-leb, leb-true, lt-leb, lt-ltb, le-ltb}
use Rattle.std.proofs.lemmas.List.{length-append, append-nil, length-take-le, take_more, drop_more}
use Rattle.std.proofs.lemmas.List.Concat.{flat_map-append}
use Rattle.ber_write.specs.Minimal.{octets_of, head_octets, uint_octets, element_size}
use Rattle.ber_write.proofs.NumberLaws.{length-uint_octets}
use Rattle.ber_write.proofs.LengthLaws.{headed, length_of_element}
use Rattle.mms_elements.specs.declared.tags.TheConstants.{GET_NAME_LIST}
use Rattle.report_cut.specs.Fields.{truth}
use Rattle.bay_answers.specs.RepliesContents.{identifiers, names_content}
use Rattle.bay_answers.specs.RepliesSizes.{service_size, names_size, with_one}
use Rattle.bay_answers.specs.Replies.{response, names_octets, names_fit, fitting, shown, names_response, IsFull, is_any, AreAsManyAsFit}
use Rattle.bay_answers.proofs.RepliesSizeLaws.{length_of_answer, size_above}

-- ---- what fits of any list

module _ {A : Type 0} (fits : List A → Bool) where
  -- a further one that fits, and one that doesn't
  pub one_fits : (so_far : List A) (x : A) (xs : List A) → fits (so_far ++ x ∷ []) ≡ true → fitting fits so_far (x ∷ xs) ≡ fitting fits (so_far ++ x ∷ []) xs
  one_fits so_far x xs e = rw e refl

  pub none_fits : (so_far : List A) (x : A) (xs : List A) → fits (so_far ++ x ∷ []) ≡ false → fitting fits so_far (x ∷ xs) ≡ so_far
  none_fits so_far x xs e = rw e refl

  -- what fits of it fits
  pub all_fit : (so_far xs : List A) → fits so_far ≡ true → fits (fitting fits so_far xs) ≡ true
  all_fit so_far [] h = h
  all_fit so_far (x ∷ xs) h = either (fits (so_far ++ x ∷ [])) refl (all_fit (so_far ++ x ∷ []) xs)
    where
      either : (t : Bool) → fits (so_far ++ x ∷ []) ≡ t → (fits (so_far ++ x ∷ []) ≡ true → fits (fitting fits (so_far ++ x ∷ []) xs) ≡ true)
          → fits (if t then fitting fits (so_far ++ x ∷ []) xs else so_far) ≡ true
      either true e r = r e
      either false e r = h

  -- what is left over begins with one that doesn't fit
  pub left_over : (so_far xs : List A) → (rest : List A) × (fitting fits so_far xs ++ rest ≡ so_far ++ xs) × IsFull fits (fitting fits so_far xs) rest
  left_over so_far [] = ([], refl, tt)
  left_over so_far (x ∷ xs) = either (fits (so_far ++ x ∷ [])) refl (left_over (so_far ++ x ∷ []) xs)
    where
      either : (t : Bool) → fits (so_far ++ x ∷ []) ≡ t
          → (rest : List A) × (fitting fits (so_far ++ x ∷ []) xs ++ rest ≡ so_far ++ x ∷ [] ++ xs) × IsFull fits (fitting fits (so_far ++ x ∷ []) xs) rest
          → (rest : List A) × ((if t then fitting fits (so_far ++ x ∷ []) xs else so_far) ++ rest ≡ so_far ++ x ∷ xs) × IsFull fits (if t then fitting fits (so_far ++ x ∷ []) xs else so_far) rest
      either true e r = (r.0, r.1 ∙ append_assoc so_far (x ∷ []) xs, r.2)
      either false e r = (x ∷ xs, refl, e)

-- ---- by sums

length_of_content : (names : List (List ℕ)) (more : Bool) → length (names_content names more) ≡ element_size (length (identifiers names)) + 3
unfolding names_content
length_of_content names more =
    length-append (octets_of 0xa0 (identifiers names)) (octets_of 0x81 (truth more)) ∙ rw (length_of_element 0xa0 (identifiers names) (omega arith)) refl

length_of_names : (invoke : ℕ) (names : List (List ℕ)) (more : Bool) → length (names_octets invoke names more) ≡ names_size invoke (length (identifiers names))
unfolding names_size
length_of_names invoke names more =
    length_of_answer invoke GET_NAME_LIST (names_content names more) (omega arith) ∙ ap (λ (n : ℕ). element_size (service_size invoke n)) (length_of_content names more)

pub fit_by_sums : (size invoke : ℕ) (names : List (List ℕ)) → names_fit size invoke names ≡ nat_le (names_size invoke (length (identifiers names))) size
fit_by_sums size invoke names = ap (λ (n : ℕ). nat_le n size) (length_of_names invoke names true)

pub one_identifier : (names : List (List ℕ)) (n : List ℕ) → length (identifiers (names ++ n ∷ [])) ≡ length (identifiers names) + element_size (length n)
one_identifier names n =
    ap length (flat_map-append (λ (m : List ℕ). octets_of 0x1a m) names (n ∷ []))
    ∙ length-append (identifiers names) (octets_of 0x1a n ++ [])
    ∙ ap (λ (k : ℕ). length (identifiers names) + k) (ap length (append-nil (octets_of 0x1a n)) ∙ length_of_element 0x1a n (omega arith))

names_longer : (invoke n : ℕ) → n ≤ names_size invoke n
unfolding names_size service_size
names_longer invoke n =
    omega (arith, size_above n, size_above (element_size n + 3), size_above (element_size (length (uint_octets invoke)) + element_size (element_size n + 3)))

-- a name that is longer than the size
pub long_name : (size invoke n : ℕ) (name : List ℕ) → size < length name → with_one size invoke n name ≡ None
long_name size invoke n name lt =
    rw (lt-leb (names_size invoke (n + element_size (length name))) size (omega (arith, lt, size_above (length name), names_longer invoke (n + element_size (length name))))) refl

-- ---- the loop: one name more

grown : (size invoke n : ℕ) (name : List ℕ) (more : ℕ) → with_one size invoke n name ≡ Some more → (nat_le (names_size invoke more) size ≡ true) × (more ≡ n + element_size (length name))
grown size invoke n name more = either (nat_le (names_size invoke (n + element_size (length name))) size) refl
  where
    either : (t : Bool) → nat_le (names_size invoke (n + element_size (length name))) size ≡ t → (if t then Some (n + element_size (length name)) else None) ≡ Some more
        → (nat_le (names_size invoke more) size ≡ true) × (more ≡ n + element_size (length name))
    either true e h = grind (arith, e, h)
    either false e h = grind (arith, h)

ended : (size invoke n : ℕ) (name : List ℕ) → with_one size invoke n name ≡ None → nat_le (names_size invoke (n + element_size (length name))) size ≡ false
ended size invoke n name = either (nat_le (names_size invoke (n + element_size (length name))) size)
  where
    either : (t : Bool) → (if t then Some (n + element_size (length name)) else None) ≡ None → t ≡ false
    either true h = grind (arith, h)
    either false h = refl

-- the names so far fit, with those that are left
abbrev pub IsReached : (size invoke k : ℕ) → List (List ℕ) → Type 0
IsReached size invoke k names = fitting (names_fit size invoke) (take k names) (drop k names) ≡ shown size invoke names

further : (size invoke k : ℕ) (names : List (List ℕ)) (d : List ℕ) → k < length names → names_fit size invoke (take k names ++ get_or names k d ∷ []) ≡ true → IsReached size invoke k names → IsReached size invoke (k + 1) names
further size invoke k names d lt fit h =
    rw (take_more names k d lt) (sym (one_fits (names_fit size invoke) (take k names) (get_or names k d) (drop (k + 1) names) fit)
    ∙ sym (ap (λ (l : List (List ℕ)). fitting (names_fit size invoke) (take k names) l) (drop_more names k d lt)) ∙ h)

with_sum : (size invoke k sum : ℕ) (names : List (List ℕ)) (n : List ℕ) → sum ≡ length (identifiers (take k names)) → names_fit size invoke (take k names ++ n ∷ []) ≡ nat_le (names_size invoke (sum + element_size (length n))) size
with_sum size invoke k sum names n e =
    fit_by_sums size invoke (take k names ++ n ∷ [])
    ∙ ap (λ (m : ℕ). nat_le (names_size invoke m) size) (one_identifier (take k names) n ∙ ap (λ (m : ℕ). m + element_size (length n)) (sym e))

-- a further name fits
pub next_name : (size invoke k sum more : ℕ) (names : List (List ℕ)) (d : List ℕ) → k < length names → sum ≡ length (identifiers (take k names)) → IsReached size invoke k names → with_one size invoke sum (get_or names k d) ≡ Some more
    → (more ≡ length (identifiers (take (k + 1) names))) × (more ≤ size) × IsReached size invoke (k + 1) names
next_name size invoke k sum more names d lt e h one =
    let g : (nat_le (names_size invoke more) size ≡ true) × (more ≡ sum + element_size (length (get_or names k d))) = grown size invoke sum (get_or names k d) more one in (
      g.1 ∙ ap (λ (m : ℕ). m + element_size (length (get_or names k d))) e ∙ sym (one_identifier (take k names) (get_or names k d)) ∙ sym (ap (λ (l : List (List ℕ)). length (identifiers l)) (take_more names k d lt)),
      omega (arith, names_longer invoke more, leb-true (names_size invoke more) size g.0),
      further size invoke k names d lt (with_sum size invoke k sum names (get_or names k d) e ∙ sym (ap (λ (m : ℕ). nat_le (names_size invoke m) size) g.1) ∙ g.0) h,
    )

-- a further name doesn't fit
pub last_name : (size invoke k sum : ℕ) (names : List (List ℕ)) (d : List ℕ) → k < length names → sum ≡ length (identifiers (take k names)) → IsReached size invoke k names → with_one size invoke sum (get_or names k d) ≡ None
    → take k names ≡ shown size invoke names
last_name size invoke k sum names d lt e h one =
    sym (none_fits (names_fit size invoke) (take k names) (get_or names k d) (drop (k + 1) names) (with_sum size invoke k sum names (get_or names k d) e ∙ ended size invoke sum (get_or names k d) one))
    ∙ sym (ap (λ (l : List (List ℕ)). fitting (names_fit size invoke) (take k names) l) (drop_more names k d lt)) ∙ h

-- as the loop has the name
pub next_one : (size invoke k sum more : ℕ) (names : List (List ℕ)) (x n : List ℕ) → k < length names → x ≡ get_or names k x → n ≡ x → sum ≡ length (identifiers (take k names)) → IsReached size invoke k names → with_one size invoke sum n ≡ Some more
    → (more ≡ length (identifiers (take (k + 1) names))) × (more ≤ size) × IsReached size invoke (k + 1) names
next_one size invoke k sum more names x n lt at is e h one = next_name size invoke k sum more names x lt e h (subst (λ (m : List ℕ). with_one size invoke sum m ≡ Some more) (is ∙ at) one)

pub last_one : (size invoke k sum : ℕ) (names : List (List ℕ)) (x n : List ℕ) → k < length names → x ≡ get_or names k x → n ≡ x → sum ≡ length (identifiers (take k names)) → IsReached size invoke k names → with_one size invoke sum n ≡ None
    → take k names ≡ shown size invoke names
last_one size invoke k sum names x n lt at is e h one = last_name size invoke k sum names x lt e h (subst (λ (m : List ℕ). with_one size invoke sum m ≡ None) (is ∙ at) one)

-- ---- the response

size_small : (n : ℕ) → n < 100 → element_size n ≡ n + 2
unfolding element_size
size_small n lt = rw (lt-ltb n 128 (omega (arith, lt))) (omega arith)

-- without a name it fits
pub none_fit : (size invoke : ℕ) → 1024 ≤ size → names_fit size invoke [] ≡ true
unfolding names_size service_size
none_fit size invoke least =
    fit_by_sums size invoke [] ∙ le-leb (names_size invoke 0) size (omega (arith, least, small))
  where
    number : element_size (length (uint_octets invoke)) ≤ 11
    number = omega (arith, size_small (length (uint_octets invoke)) (omega (arith, length-uint_octets invoke)), length-uint_octets invoke)

    inner : element_size (element_size 0 + 3) ≡ 7
    inner = size_small (element_size 0 + 3) (omega (arith, size_small 0 (omega arith))) ∙ omega (arith, size_small 0 (omega arith))

    small : names_size invoke 0 ≤ 1024
    small = omega (arith, size_small (element_size (length (uint_octets invoke)) + element_size (element_size 0 + 3)) (omega (arith, number, inner)), number, inner)

pub shown_fit : (size invoke : ℕ) (names : List (List ℕ)) → 1024 ≤ size → names_fit size invoke (shown size invoke names) ≡ true
shown_fit size invoke names least = all_fit (names_fit size invoke) [] names (none_fit size invoke least)

pub as_long : (invoke : ℕ) (names : List (List ℕ)) (a b : Bool) → length (names_octets invoke names a) ≡ length (names_octets invoke names b)
as_long invoke names a b = length_of_names invoke names a ∙ sym (length_of_names invoke names b)

-- what fits is no error
pub names_answer : (size invoke : ℕ) (names : List (List ℕ)) (more : Bool) → names_fit size invoke names ≡ true → response size invoke GET_NAME_LIST (names_content names more) ≡ names_octets invoke names more
names_answer size invoke names more fit = rw (ap (λ (n : ℕ). nat_le n size) (as_long invoke names more true) ∙ fit) refl

pub answers : (size invoke count sum : ℕ) (names : List (List ℕ)) → 1024 ≤ size → count ≤ length names → take count names ≡ shown size invoke names → sum ≡ length (identifiers (take count names))
    → response size invoke 161 ((head_octets 160 sum ++ identifiers (take count names)) ++ octets_of 129 (truth (nat_lt count (length names)))) ≡ names_response size invoke names
unfolding names_content
answers size invoke count sum names least le e s =
    ap (λ (o : List ℕ). response size invoke 161 (o ++ octets_of 129 (truth (nat_lt count (length names))))) (headed 160 sum (identifiers (take count names)) (sym s))
    ∙ names_answer size invoke (take count names) (nat_lt count (length names)) (subst (λ (l : List (List ℕ)). names_fit size invoke l ≡ true) (sym e) (shown_fit size invoke names least))
    ∙ subst (λ (l : List (List ℕ)). names_octets invoke (take count names) (nat_lt count (length names)) ≡ names_octets invoke l (nat_lt (length l) (length names))) e
    (ap (λ (n : ℕ). names_octets invoke (take count names) (nat_lt n (length names))) (sym (length-take-le count names le)))

-- ---- as many as fit

told : (given rest names : List (List ℕ)) → given ++ rest ≡ names → nat_lt (length given) (length names) ≡ is_any rest
told given [] names e = le-ltb (length given) (length names) (omega (arith, length-append given [], ap length e))
told given (n ∷ rest) names e = lt-ltb (length given) (length names) (omega (arith, length-append given (n ∷ rest), ap length e))

pub as_many : (size invoke : ℕ) (names : List (List ℕ)) → 1024 ≤ size → AreAsManyAsFit size invoke names (names_response size invoke names)
as_many size invoke names least =
    let l : (rest : List (List ℕ)) × (shown size invoke names ++ rest ≡ names) × IsFull (names_fit size invoke) (shown size invoke names) rest = left_over (names_fit size invoke) [] names in record {
      given = shown size invoke names;
      rest = l.0;
      first = l.1;
      fit = shown_fit size invoke names least;
      full = l.2;
      told = ap (λ (more : Bool). names_octets invoke (shown size invoke names) more) (told (shown size invoke names) l.0 names l.1);
    }
