-- What is read is spelled so, what is spelled so is read, and each refusal is where no spelling goes on.
use Rattle.std.proofs.Common.{◌≡◌, ℕ, ◌+◌, ◌-◌, ◌*◌, ◌%◌, ◌^◌, ◌<◌, ◌≤◌, false, cond, eqb, ltb, List, [], ◌∷◌, ◌++◌, length, take, drop, replicate, Result, Ok, Err, refl, sym, ap, subst, ◌∙◌, append_assoc, arith}
use Rattle.std.specs.Prelude.{IfOk}
use Rattle.std.proofs.lemmas.Bool.{eqb-true, eqb-false, ltb-true, ltb-false, eq-eqb, ne_eqb, lt-ltb, le-ltb, cond_both}
use Rattle.std.proofs.lemmas.List.{take_at, drop_at, take-append-drop, length-append, length-take, length-replicate, append-nil}
use Rattle.list_laws.proofs.Options.{ok_is}
use Rattle.ber_grammar.specs.declared.fault.BerFault.{BerFault}
use Rattle.ber_grammar.specs.declared.fault.BerFault.TheVariants.{Short, LongLength, Indefinite, BadTag, BadNumber, BadText}
use Rattle.ber_grammar.specs.Octets.{big_endian, IsAt, IsBytes}
use Rattle.ber_grammar.specs.Element.{Element, IsTag, IsLength, Spells, Begins, IsRefused}
use Rattle.ber_grammar.specs.Reader.{◌>>=◌, Gives, Reads}
use Rattle.ber_grammar.specs.Reading.{third_at, second_at, tag_at, number_at, length_at, first_at}
use Rattle.ber_grammar.proofs.OctetLaws.{Begins-below}
use Rattle.ber_grammar.proofs.ReaderLaws.{exact_from, reads_from}

-- ---- what is spelled so is read

pub tag_again : (o : List ℕ) (t : ℕ) (rest : List ℕ) → IsTag o t → tag_at (o ++ rest) ≡ Ok (t, rest)
unfolding tag_at
tag_again [] t rest h = absurd h
tag_again (a ∷ []) t rest h = rw (ne_eqb (a % 32) 31 h.0, h.1) refl
tag_again (a ∷ b ∷ []) t rest h = rw (eq-eqb (a % 32) 31 h.0, lt-ltb b 128 h.1, h.2) refl
tag_again (a ∷ b ∷ c ∷ []) t rest h = rw (eq-eqb (a % 32) 31 h.0, le-ltb b 128 h.1, lt-ltb c 128 h.2, h.3) refl
tag_again (a ∷ b ∷ c ∷ d ∷ more) t rest h = absurd h

number_again : (k : ℕ) (o rest : List ℕ) → length o ≡ k → number_at k (o ++ rest) ≡ Ok (big_endian o, rest)
unfolding number_at
number_again k o rest len =
    let long : ltb (length (o ++ rest)) k ≡ false = le-ltb _ _ (omega (arith, length-append o rest)) in
    rw (long, take_at o rest k len, drop_at o rest k len) refl

pub length_again : (o : List ℕ) (n : ℕ) (rest : List ℕ) → IsLength o n → length_at (o ++ rest) ≡ Ok (n, rest)
unfolding length_at
length_again [] n rest h = absurd h
length_again (a ∷ []) n rest h = rw (lt-ltb a 128 h.0, h.1) refl
length_again (a ∷ b ∷ more) n rest h =
    let count : length (b ∷ more) ≡ a - 128 = omega (arith, h.0) in
    rw (le-ltb a 128 (omega (arith, h.0)), ne_eqb a 128 (λ e. omega (arith, h.0, e)), le-ltb 132 a (omega (arith, h.0, h.1)), number_again (a - 128) (b ∷ more) rest count, h.2) refl

pub first_again : (front rest : List ℕ) (e : Element) → Spells front e → first_at (front ++ rest) ≡ Ok (e, rest)
unfolding first_at
first_again front rest e s =
    let regrouped : front ++ rest ≡ s.tag ++ (s.len ++ (e.content ++ rest)) =
    ap (λ (x : List ℕ). x ++ rest) s.whole ∙ append_assoc s.tag (s.len ++ e.content) rest ∙ ap (λ (x : List ℕ). s.tag ++ x) (append_assoc s.len e.content rest) in
    let long : ltb (length (e.content ++ rest)) (length e.content) ≡ false = le-ltb _ _ (omega (arith, length-append e.content rest)) in
    let head : length (s.tag ++ (s.len ++ (e.content ++ rest))) - length (e.content ++ rest) ≡ e.head =
    omega (arith, s.head, length-append s.tag (s.len ++ (e.content ++ rest)), length-append s.len (e.content ++ rest)) in
    ap first_at regrouped ∙ rw (tag_again s.tag e.tag (s.len ++ (e.content ++ rest)) s.is_tag, length_again s.len (length e.content) (e.content ++ rest) s.is_length, long, head, take_at e.content rest (length e.content) refl, drop_at e.content rest (length e.content) refl) refl

-- ---- what is read is spelled so

-- what a field's reader says of the input
abbrev pub TagTells : List ℕ → Result (ℕ × List ℕ) BerFault → Type 0
TagTells input (Ok x) = (o : List ℕ) × IsTag o x.0 × (input ≡ o ++ x.1)
TagTells input (Err Short) = (more : List ℕ) × (tag : ℕ) × (0 < length more) × IsTag (input ++ more) tag
TagTells input (Err BadTag) = IsRefused input BadTag
TagTells input (Err LongLength) = ⊥
TagTells input (Err Indefinite) = ⊥
TagTells input (Err BadNumber) = ⊥
TagTells input (Err BadText) = ⊥

third_tells : (a b : ℕ) (bytes : List ℕ) → a % 32 ≡ 31 → 128 ≤ b → TagTells (a ∷ b ∷ bytes) (third_at a b bytes)
third_tells a b [] ha hb = (0 ∷ [], _, omega arith, (ha, hb, omega arith, refl))
third_tells a b (c ∷ rest) ha hb =
    cond_both (ltb c 128) (Ok ((a * 256 + b) * 256 + c, rest)) (Err BadTag) (λ r. TagTells (a ∷ b ∷ c ∷ rest) r)
    (λ e. (a ∷ b ∷ c ∷ [], (ha, hb, ltb-true _ _ e, refl), refl))
    (λ e. (a, b, c, rest, ha, hb, ltb-false _ _ e, refl))

second_tells : (a : ℕ) (bytes : List ℕ) → a % 32 ≡ 31 → TagTells (a ∷ bytes) (second_at a bytes)
second_tells a [] ha = (0 ∷ [], _, omega arith, (ha, omega arith, refl))
second_tells a (b ∷ rest) ha =
    cond_both (ltb b 128) (Ok (a * 256 + b, rest)) (third_at a b rest) (λ r. TagTells (a ∷ b ∷ rest) r)
    (λ e. (a ∷ b ∷ [], (ha, ltb-true _ _ e, refl), refl))
    (λ e. third_tells a b rest ha (ltb-false _ _ e))

pub tag_tells : (bytes : List ℕ) → TagTells bytes (tag_at bytes)
unfolding tag_at
tag_tells [] = (0 ∷ [], 0, omega arith, ((λ e. omega (arith, e)), refl))
tag_tells (a ∷ rest) =
    cond_both (eqb (a % 32) 31) (second_at a rest) (Ok (a, rest)) (λ r. TagTells (a ∷ rest) r)
    (λ e. second_tells a rest (eqb-true _ _ e))
    (λ e. (a ∷ [], (eqb-false _ _ e, refl), refl))

abbrev pub LengthTells : List ℕ → Result (ℕ × List ℕ) BerFault → Type 0
LengthTells input (Ok x) = (o : List ℕ) × IsLength o x.0 × (input ≡ o ++ x.1)
LengthTells input (Err Short) = (more : List ℕ) × (len : ℕ) × (0 < length more) × IsLength (input ++ more) len
LengthTells input (Err Indefinite) = (rest : List ℕ) × (input ≡ 128 ∷ rest)
LengthTells input (Err LongLength) = (a : ℕ) × (rest : List ℕ) × (132 < a) × (input ≡ a ∷ rest)
LengthTells input (Err BadTag) = ⊥
LengthTells input (Err BadNumber) = ⊥
LengthTells input (Err BadText) = ⊥

is_long_length : (a : ℕ) (o : List ℕ) → 0 < length o → a ≡ 128 + length o → length o ≤ 4 → IsLength (a ∷ o) (big_endian o)
is_long_length a [] some e le = absurd (omega (arith, some))
is_long_length a (b ∷ more) some e le = (e, le, refl)

number_tells : (a : ℕ) (bytes : List ℕ) → 128 < a → a ≤ 132 → LengthTells (a ∷ bytes) (number_at (a - 128) bytes)
unfolding number_at
number_tells a bytes lo hi =
    cond_both (ltb (length bytes) (a - 128)) (Err Short) (Ok (big_endian (take (a - 128) bytes), drop (a - 128) bytes)) (λ r. LengthTells (a ∷ bytes) r)
    (λ e. let lt = ltb-true _ _ e in
    let more = replicate (a - 128 - length bytes) 0 in
    let len : length (bytes ++ more) ≡ a - 128 = omega (arith, length-append bytes more, length-replicate {A = ℕ} (a - 128 - length bytes) 0) in
    (more, big_endian (bytes ++ more), omega (arith, lt, length-replicate {A = ℕ} (a - 128 - length bytes) 0), is_long_length a (bytes ++ more) (omega arith) (omega arith) (omega arith)))
    (λ e. let le = ltb-false _ _ e in
    let len : length (take (a - 128) bytes) ≡ a - 128 = omega (arith, length-take (a - 128) bytes) in
    (a ∷ take (a - 128) bytes, is_long_length a (take (a - 128) bytes) (omega arith) (omega arith) (omega arith), ap (λ (x : List ℕ). a ∷ x) (sym (take-append-drop (a - 128) bytes))))

pub length_tells : (bytes : List ℕ) → LengthTells bytes (length_at bytes)
unfolding length_at
length_tells [] = (0 ∷ [], 0, omega arith, (omega arith, refl))
length_tells (a ∷ rest) =
    cond_both (ltb a 128) (Ok (a, rest)) (cond (eqb a 128) (Err Indefinite) (cond (ltb 132 a) (Err LongLength) (number_at (a - 128) rest))) (λ r. LengthTells (a ∷ rest) r)
    (λ e. (a ∷ [], (ltb-true _ _ e, refl), refl))
    (λ e. let below = ltb-false _ _ e in cond_both (eqb a 128) (Err Indefinite) (cond (ltb 132 a) (Err LongLength) (number_at (a - 128) rest)) (λ r. LengthTells (a ∷ rest) r)
    (λ e. (rest, ap (λ (x : ℕ). x ∷ rest) (eqb-true _ _ e)))
    (λ e. let other = eqb-false a 128 e in cond_both (ltb 132 a) (Err LongLength) (number_at (a - 128) rest) (λ r. LengthTells (a ∷ rest) r)
    (λ e. (a, rest, ltb-true _ _ e, refl))
    (λ e. let le = ltb-false _ _ e in number_tells a rest (omega (arith, other, below)) le)))

abbrev pub FirstTells : List ℕ → Result (Element × List ℕ) BerFault → Type 0
FirstTells input (Ok x) = Begins input x.0 x.1
FirstTells input (Err f) = IsRefused input f

-- an element whose octets are these
spelled : (octets o l content : List ℕ) (t n head : ℕ) → IsTag o t → IsLength l n → length content ≡ n → head ≡ length o + length l → octets ≡ o ++ (l ++ content) → Spells octets (record { tag = t; head = head; content = content })
spelled octets o l content t n head is_tag is_length len at_head whole = record { tag = o; len = l; is_tag = is_tag; is_length = subst (λ (k : ℕ). IsLength l k) (sym len) is_length; head = at_head; whole = whole }

regroup : (bytes o after l rest : List ℕ) → bytes ≡ o ++ after → after ≡ l ++ rest → bytes ≡ o ++ (l ++ rest)
regroup bytes o after l rest p q = p ∙ ap (λ (x : List ℕ). o ++ x) q

after_length : (bytes o after : List ℕ) (t : ℕ) (r : Result (ℕ × List ℕ) BerFault) → IsTag o t → bytes ≡ o ++ after → LengthTells after r
    → FirstTells bytes (r >>= λ len. cond (ltb (length len.1) len.0) (Err Short) (Ok (record { tag = t; head = length bytes - length len.1; content = take len.0 len.1 }, drop len.0 len.1)))
after_length bytes o after t (Ok (n, rest)) is_tag p (l, is_length, q) =
    cond_both (ltb (length rest) n) (Err Short) (Ok (record { tag = t; head = length bytes - length rest; content = take n rest }, drop n rest)) (λ r. FirstTells bytes r)
    (λ e. let lt = ltb-true _ _ e in
    let more = replicate (n - length rest) 0 in
    let some = length-replicate {A = ℕ} (n - length rest) 0 in (
      more,
      record { tag = t; head = length o + length l; content = rest ++ more },
      omega (arith, lt, some),
      spelled (bytes ++ more) o l (rest ++ more) t n (length o + length l) is_tag is_length (omega (arith, lt, some, length-append rest more)) refl
          (ap (λ (x : List ℕ). x ++ more) (regroup bytes o after l rest p q) ∙ append_assoc o (l ++ rest) more ∙ ap (λ (x : List ℕ). o ++ x) (append_assoc l rest more)),
    ))
    (λ e. let le = ltb-false _ _ e in
    let whole = regroup bytes o after l rest p q in (
      o ++ (l ++ take n rest),
      spelled (o ++ (l ++ take n rest)) o l (take n rest) t n (length bytes - length rest) is_tag is_length (omega (arith, le, length-take n rest))
          (omega (arith, ap length whole, length-append o (l ++ rest), length-append l rest)) refl,
      whole ∙ ap (λ (x : List ℕ). o ++ (l ++ x)) (sym (take-append-drop n rest))
          ∙ sym (append_assoc o (l ++ take n rest) (drop n rest) ∙ ap (λ (x : List ℕ). o ++ x) (append_assoc l (take n rest) (drop n rest))),
    ))
after_length bytes o after t (Err Short) is_tag p (more, n, some, is_length) =
    let content = replicate n 0 in (
      more ++ content,
      record { tag = t; head = length o + length (after ++ more); content = content },
      omega (arith, some, length-append more content),
      spelled (bytes ++ (more ++ content)) o (after ++ more) content t n (length o + length (after ++ more)) is_tag is_length (length-replicate {A = ℕ} n 0) refl
          (ap (λ (x : List ℕ). x ++ (more ++ content)) p ∙ append_assoc o after (more ++ content) ∙ ap (λ (x : List ℕ). o ++ x) (sym (append_assoc after more content))),
    )
after_length bytes o after t (Err Indefinite) is_tag p (rest, q) = (o, t, rest, is_tag, p ∙ ap (λ (x : List ℕ). o ++ x) q)
after_length bytes o after t (Err LongLength) is_tag p (a, rest, lt, q) = (o, t, a, rest, is_tag, lt, p ∙ ap (λ (x : List ℕ). o ++ x) q)
after_length bytes o after t (Err BadTag) is_tag p h = absurd h
after_length bytes o after t (Err BadNumber) is_tag p h = absurd h
after_length bytes o after t (Err BadText) is_tag p h = absurd h

after_tag : (bytes : List ℕ) (r : Result (ℕ × List ℕ) BerFault) → TagTells bytes r
    → FirstTells bytes (r >>= λ tag. length_at tag.1 >>= λ len. cond (ltb (length len.1) len.0) (Err Short) (Ok (record { tag = tag.0; head = length bytes - length len.1; content = take len.0 len.1 }, drop len.0 len.1)))
after_tag bytes (Ok (t, after)) (o, is_tag, p) = after_length bytes o after t (length_at after) is_tag p (length_tells after)
after_tag bytes (Err Short) (more, t, some, is_tag) = (
  more ++ 0 ∷ [],
  record { tag = t; head = length (bytes ++ more) + 1; content = [] },
  omega (arith, some, length-append more (0 ∷ [])),
  spelled (bytes ++ (more ++ 0 ∷ [])) (bytes ++ more) (0 ∷ []) [] t 0 (length (bytes ++ more) + 1) is_tag (omega arith, refl) refl refl (sym (append_assoc bytes more (0 ∷ []))),
)
after_tag bytes (Err BadTag) h = h
after_tag bytes (Err LongLength) h = absurd h
after_tag bytes (Err Indefinite) h = absurd h
after_tag bytes (Err BadNumber) h = absurd h
after_tag bytes (Err BadText) h = absurd h

pub first_tells : (bytes : List ℕ) → FirstTells bytes (first_at bytes)
unfolding first_at
first_tells bytes = after_tag bytes (tag_at bytes) (tag_tells bytes)

-- ---- each refusal comes where it is said

stays_refused : (bytes more : List ℕ) (f : BerFault) → (f ≡ Short → ⊥) → IsRefused bytes f → IsRefused (bytes ++ more) f
stays_refused bytes more Short ne h = absurd (ne refl)
stays_refused bytes more BadTag ne (a, b, c, rest, ha, hb, hc, p) = (a, b, c, rest ++ more, ha, hb, hc, ap (λ (x : List ℕ). x ++ more) p)
stays_refused bytes more Indefinite ne (o, t, rest, is_tag, p) = (o, t, rest ++ more, is_tag, ap (λ (x : List ℕ). x ++ more) p ∙ append_assoc o (128 ∷ rest) more)
stays_refused bytes more LongLength ne (o, t, a, rest, is_tag, lt, p) = (o, t, a, rest ++ more, is_tag, lt, ap (λ (x : List ℕ). x ++ more) p ∙ append_assoc o (a ∷ rest) more)
stays_refused bytes more BadNumber ne h = h
stays_refused bytes more BadText ne h = h

bad_tag_again : (a b c : ℕ) (rest : List ℕ) → a % 32 ≡ 31 → 128 ≤ b → 128 ≤ c → first_at (a ∷ b ∷ c ∷ rest) ≡ Err BadTag
unfolding first_at tag_at
bad_tag_again a b c rest ha hb hc = rw (eq-eqb (a % 32) 31 ha, le-ltb b 128 hb, le-ltb c 128 hc) refl

indefinite_again : (o : List ℕ) (t : ℕ) (rest : List ℕ) → IsTag o t → first_at (o ++ 128 ∷ rest) ≡ Err Indefinite
unfolding first_at length_at
indefinite_again o t rest is_tag = rw (tag_again o t (128 ∷ rest) is_tag) refl

long_length_again : (o : List ℕ) (t a : ℕ) (rest : List ℕ) → IsTag o t → 132 < a → first_at (o ++ a ∷ rest) ≡ Err LongLength
unfolding first_at length_at
long_length_again o t a rest is_tag lt = rw (tag_again o t (a ∷ rest) is_tag, le-ltb a 128 (omega arith), ne_eqb a 128 (λ e. omega (arith, e, lt)), lt-ltb 132 a lt) refl

not_short : (bytes : List ℕ) (f : BerFault) → (f ≡ Short → ⊥) → IsRefused bytes f → first_at bytes ≡ Err f
not_short bytes Short ne h = absurd (ne refl)
not_short bytes BadTag ne (a, b, c, rest, ha, hb, hc, p) = ap first_at p ∙ bad_tag_again a b c rest ha hb hc
not_short bytes Indefinite ne (o, t, rest, is_tag, p) = ap first_at p ∙ indefinite_again o t rest is_tag
not_short bytes LongLength ne (o, t, a, rest, is_tag, lt, p) = ap first_at p ∙ long_length_again o t a rest is_tag lt
not_short bytes BadNumber ne h = absurd h
not_short bytes BadText ne h = absurd h

-- what goes on to an element is refused for no other cause
clash : (bytes more : List ℕ) (e : Element) (f : BerFault) → (f ≡ Short → ⊥) → Spells (bytes ++ more) e → IsRefused bytes f → ⊥
clash bytes more e f ne s h =
    let one : first_at (bytes ++ more) ≡ Err f = not_short (bytes ++ more) f ne (stays_refused bytes more f ne h) in
    let two : first_at (bytes ++ more) ≡ Ok (e, []) = ap first_at (sym (append-nil (bytes ++ more))) ∙ first_again (bytes ++ more) [] e s in
    cc

-- An element's octets, cut short, read as nothing but Short.
cut_short : (bytes more : List ℕ) (e : Element) (r : Result (Element × List ℕ) BerFault) → 0 < length more → Spells (bytes ++ more) e → FirstTells bytes r → r ≡ Err Short
cut_short bytes more e (Ok (d, rest)) some s (front, t, p) =
    let one : first_at (bytes ++ more) ≡ Ok (d, rest ++ more) = ap first_at (ap (λ (x : List ℕ). x ++ more) p ∙ append_assoc front rest more) ∙ first_again front (rest ++ more) d t in
    let two : first_at (bytes ++ more) ≡ Ok (e, []) = ap first_at (sym (append-nil (bytes ++ more))) ∙ first_again (bytes ++ more) [] e s in
    let same : rest ++ more ≡ [] = ap (λ (x : Element × List ℕ). x.1) (ok_is {F = BerFault} (d, rest ++ more) (e, []) (sym one ∙ two)) in
    absurd (omega (arith, ap length same, length-append rest more))
cut_short bytes more e (Err Short) some s h = refl
cut_short bytes more e (Err BadTag) some s h = absurd (clash bytes more e BadTag (λ q. cc) s h)
cut_short bytes more e (Err LongLength) some s h = absurd (clash bytes more e LongLength (λ q. cc) s h)
cut_short bytes more e (Err Indefinite) some s h = absurd (clash bytes more e Indefinite (λ q. cc) s h)
cut_short bytes more e (Err BadNumber) some s h = absurd h
cut_short bytes more e (Err BadText) some s h = absurd h

pub refused_again : (bytes : List ℕ) (f : BerFault) → IsRefused bytes f → first_at bytes ≡ Err f
refused_again bytes Short (more, e, some, s) = cut_short bytes more e (first_at bytes) some s (first_tells bytes)
refused_again bytes BadTag h = not_short bytes BadTag (λ q. cc) h
refused_again bytes LongLength h = not_short bytes LongLength (λ q. cc) h
refused_again bytes Indefinite h = not_short bytes Indefinite (λ q. cc) h
refused_again bytes BadNumber h = absurd h
refused_again bytes BadText h = absurd h

pub first_exact : (bytes : List ℕ) → Reads (λ (y : Element × List ℕ). y) (first_at bytes) (λ y. Begins bytes y.0 y.1) (IsRefused bytes)
first_exact bytes = exact_from (first_at bytes) (λ y. Begins bytes y.0 y.1) (IsRefused bytes) (FirstTells bytes) (λ y h. h) (λ f h. h) (first_tells bytes)
    (λ (e, rest) (front, s, p). ap first_at p ∙ first_again front rest e s)
    (refused_again bytes)

pub first_reads : {X : Type 0} (view : X → Element × List ℕ) (r : Result X BerFault) (bytes : List ℕ) → Gives view r (first_at bytes) → Reads {Y = Element × List ℕ} view r (λ y. Begins bytes y.0 y.1) (IsRefused bytes)
first_reads view r bytes g = reads_from view r (first_at bytes) (λ y. Begins bytes y.0 y.1) (IsRefused bytes) (first_exact bytes) g

at_front : (front part rest : List ℕ) (n : ℕ) → length front ≡ n → IsAt (front ++ (part ++ rest)) n part
at_front front part rest n len = rw (drop_at front (part ++ rest) n len, take_at part rest (length part) refl) refl

-- the content and the rest are where the element has them
pub Begins-places : (bytes : List ℕ) (e : Element) (rest : List ℕ) → Begins bytes e rest → IsAt bytes e.head e.content × IsAt bytes (e.head + length e.content) rest
Begins-places bytes e rest (front, s, p) =
    let whole : bytes ≡ (s.tag ++ s.len) ++ (e.content ++ rest) = p ∙ ap (λ (x : List ℕ). x ++ rest) s.whole ∙ append_assoc s.tag (s.len ++ e.content) rest ∙ ap (λ (x : List ℕ). s.tag ++ x) (append_assoc s.len e.content rest) ∙ sym (append_assoc s.tag s.len (e.content ++ rest)) in
    let again : bytes ≡ ((s.tag ++ s.len) ++ e.content) ++ (rest ++ []) = whole ∙ sym (append_assoc (s.tag ++ s.len) e.content rest) ∙ ap (λ (x : List ℕ). ((s.tag ++ s.len) ++ e.content) ++ x) (sym (append-nil rest)) in
    let head : length (s.tag ++ s.len) ≡ e.head = omega (arith, s.head, length-append s.tag s.len) in (
      subst (λ (x : List ℕ). IsAt x e.head e.content) (sym whole) (at_front (s.tag ++ s.len) e.content rest e.head head),
      subst (λ (x : List ℕ). IsAt x (e.head + length e.content) rest) (sym again) (at_front ((s.tag ++ s.len) ++ e.content) rest [] (e.head + length e.content) (omega (arith, head, length-append (s.tag ++ s.len) e.content))),
    )

pub IsTag-some : (o : List ℕ) (t : ℕ) → IsTag o t → 0 < length o
IsTag-some [] t h = absurd h
IsTag-some (a ∷ o) t h = omega arith

pub Begins-shorter : (bytes : List ℕ) (e : Element) (rest : List ℕ) → Begins bytes e rest → length rest < length bytes
Begins-shorter bytes e rest (front, s, p) =
    omega (arith, ap length p, length-append front rest, ap length s.whole, length-append s.tag (s.len ++ e.content), IsTag-some s.tag e.tag s.is_tag)

pub first_shorter : (bytes : List ℕ) (e : Element) (rest : List ℕ) → first_at bytes ≡ Ok (e, rest) → length rest < length bytes
first_shorter bytes e rest h = Begins-shorter bytes e rest (subst (λ (r : Result (Element × List ℕ) BerFault). FirstTells bytes r) h (first_tells bytes))

pub first_shortens : {X : Type 0} (view : X → Element × List ℕ) (r : Result X BerFault) (bytes : List ℕ) → Gives view r (first_at bytes) → IfOk r (λ x. length (view x).1 < length bytes)
first_shortens view (Ok x) bytes g = first_shorter bytes (view x).0 (view x).1 g
first_shortens view (Err f) bytes g = tt

pub Begins-length : (bytes : List ℕ) (e : Element) (rest : List ℕ) → Begins bytes e rest → length bytes ≡ (e.head + length e.content) + length rest
Begins-length bytes e rest (front, s, p) =
    omega (arith, ap length p, length-append front rest, ap length s.whole, length-append s.tag (s.len ++ e.content), length-append s.len e.content, s.head)

pub first_below : {X : Type 0} (view : X → Element × List ℕ) (r : Result X BerFault) (bytes : List ℕ) → IsBytes bytes → Gives view r (first_at bytes) → IfOk r (λ x. length (view x).0.content < 2 ^ 32)
first_below view (Ok x) bytes fits g = Begins-below bytes (view x).0 (view x).1 fits (subst (λ (r : Result (Element × List ℕ) BerFault). FirstTells bytes r) g (first_tells bytes))
first_below view (Err f) bytes fits g = tt
