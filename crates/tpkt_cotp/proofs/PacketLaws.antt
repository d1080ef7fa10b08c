-- What a reader of TPKTs says of the input.
use Rattle.std.proofs.Common.{◌≡◌, ℕ, ◌+◌, ◌-◌, ◌*◌, ◌/◌, ◌%◌, ◌<◌, ◌≤◌, cond, eqb, ltb, List, [], ◌∷◌, ◌++◌, length, take, drop, min, replicate, Option, Some, None, Result, Ok, Err, refl, sym, ap, subst, ◌∙◌, inl, inr, append_assoc, arith}
use Rattle.std.specs.Prelude.{MatchOption, MatchResult}
use Rattle.std.proofs.lemmas.Bool.{eqb-true, eqb-false, ltb-true, ltb-false, lt-ltb, le-ltb, ne_eqb, cond_both}
use Rattle.std.proofs.lemmas.List.{append-nil, length-append, length-take, length-replicate, length-drop, take-append-drop, take_at, drop_at, nil_from_length}
use Rattle.ber_grammar.specs.Octets.{IsBytes}
use Rattle.ber_grammar.proofs.OctetLaws.{IsBytes-rest}
use Rattle.tpkt_cotp.specs.declared.fault.TpFault.{TpFault}
use Rattle.tpkt_cotp.specs.declared.fault.TpFault.TheVariants.{Version, Length}
use Rattle.tpkt_cotp.specs.Packet.{TopsUp, Completes, packet, IsTpdu, IsPartial, IsBad, body_at, length_at, second_at, packet_at, wanted_at}

abbrev pub PacketTells : List ℕ → Result (Option (List ℕ × List ℕ)) TpFault → Type 0
PacketTells input (Ok None) = IsPartial input
PacketTells input (Ok (Some x)) = IsTpdu x.0 × (input ≡ packet x.0 ++ x.1)
PacketTells input (Err f) = IsBad input f

-- a TPKT of n octets after its header
packet_is : (c d : ℕ) (tpdu : List ℕ) → c < 256 → d < 256 → length tpdu + 4 ≡ c * 256 + d → packet tpdu ≡ 3 ∷ 0 ∷ c ∷ d ∷ tpdu
packet_is c d tpdu hc hd len =
    let high : (length tpdu + 4) / 256 ≡ c = omega arith in
    let low : (length tpdu + 4) % 256 ≡ d = omega arith in
    rw (high, low) refl

fill : (rest : List ℕ) (n : ℕ) → List ℕ
fill rest n = rest ++ replicate (n - length rest) 0

body_tells : (c d : ℕ) (rest : List ℕ) → c < 256 → d < 256 → PacketTells (3 ∷ 0 ∷ c ∷ d ∷ rest) (body_at (c * 256 + d) rest)
body_tells c d rest hc hd =
    cond_both (ltb (c * 256 + d) 7) (Err Length) (cond (ltb (length rest) (c * 256 + d - 4)) (Ok None) (Ok (Some (take (c * 256 + d - 4) rest, drop (c * 256 + d - 4) rest)))) (λ r. PacketTells (3 ∷ 0 ∷ c ∷ d ∷ rest) r)
    (λ e. inr (inr (refl, c, d, rest, refl, ltb-true _ _ e)))
    (λ e. let low = ltb-false (c * 256 + d) 7 e in
    cond_both (ltb (length rest) (c * 256 + d - 4)) (Ok None) (Ok (Some (take (c * 256 + d - 4) rest, drop (c * 256 + d - 4) rest))) (λ r. PacketTells (3 ∷ 0 ∷ c ∷ d ∷ rest) r)
    (λ e. let lt = ltb-true (length rest) (c * 256 + d - 4) e in
    let more = replicate (c * 256 + d - 4 - length rest) 0 in
    let count = length-replicate {A = ℕ} (c * 256 + d - 4 - length rest) 0 in
    let len : length (rest ++ more) + 4 ≡ c * 256 + d = omega (arith, length-append rest more, count, lt, low) in
    (rest ++ more, more, (omega (arith, len, low), omega (arith, len, hc, hd)), omega (arith, count, lt), packet_is c d (rest ++ more) hc hd len))
    (λ e. let ge = ltb-false (length rest) (c * 256 + d - 4) e in
    let len : length (take (c * 256 + d - 4) rest) + 4 ≡ c * 256 + d = omega (arith, length-take (c * 256 + d - 4) rest, ge, low) in (
      (omega (arith, len, low), omega (arith, len, hc, hd)),
      ap (λ (x : List ℕ). 3 ∷ 0 ∷ c ∷ d ∷ x) (sym (take-append-drop (c * 256 + d - 4) rest)) ∙ ap (λ (x : List ℕ). x ++ drop (c * 256 + d - 4) rest) (sym (packet_is c d (take (c * 256 + d - 4) rest) hc hd len)),
    )))

-- a front of a header, completed
length_tells : (rest : List ℕ) → IsBytes rest → PacketTells (3 ∷ 0 ∷ rest) (length_at rest)
length_tells [] fits = (0 ∷ 0 ∷ 0 ∷ [], 0 ∷ 7 ∷ 0 ∷ 0 ∷ 0 ∷ [], (omega arith, omega arith), omega arith, refl)
length_tells (c ∷ []) fits =
    let tpdu : List ℕ = replicate (c * 256 + 251) 0 in
    let count : length tpdu ≡ c * 256 + 251 = length-replicate {A = ℕ} (c * 256 + 251) 0 in
    let len : length tpdu + 4 ≡ c * 256 + 255 = omega (arith, count) in
    (tpdu, 255 ∷ tpdu, (omega (arith, len), omega (arith, len, fits 0)), omega arith, packet_is c 255 tpdu (fits 0) (omega arith) len)
length_tells (c ∷ d ∷ rest) fits = body_tells c d rest (fits 0) (fits 1)

second_tells : (rest : List ℕ) → IsBytes rest → PacketTells (3 ∷ rest) (second_at rest)
second_tells [] fits = (0 ∷ 0 ∷ 0 ∷ [], 0 ∷ 0 ∷ 7 ∷ 0 ∷ 0 ∷ 0 ∷ [], (omega arith, omega arith), omega arith, refl)
second_tells (b ∷ rest) fits =
    cond_both (eqb b 0) (length_at rest) (Err Version) (λ r. PacketTells (3 ∷ b ∷ rest) r)
    (λ e. let zero-is : b ≡ 0 = eqb-true b 0 e in subst (λ (x : ℕ). PacketTells (3 ∷ x ∷ rest) (length_at rest)) (sym zero-is) (length_tells rest (IsBytes-rest b rest fits)))
    (λ e. inr (inl (refl, b, rest, refl, eqb-false b 0 e)))

pub packet_tells : (input : List ℕ) → IsBytes input → PacketTells input (packet_at input)
unfolding packet_at
packet_tells [] fits = (0 ∷ 0 ∷ 0 ∷ [], packet (0 ∷ 0 ∷ 0 ∷ []), (omega arith, omega arith), omega arith, refl)
packet_tells (a ∷ rest) fits =
    cond_both (eqb a 3) (second_at rest) (Err Version) (λ r. PacketTells (a ∷ rest) r)
    (λ e. let three : a ≡ 3 = eqb-true a 3 e in subst (λ (x : ℕ). PacketTells (x ∷ rest) (second_at rest)) (sym three) (second_tells rest (IsBytes-rest a rest fits)))
    (λ e. inl (refl, a, rest, refl, eqb-false a 3 e))

pub packet_whole : (input tpdu after : List ℕ) → IsBytes input → packet_at input ≡ Ok (Some (tpdu, after)) → IsTpdu tpdu × (input ≡ packet tpdu ++ after)
packet_whole input tpdu after fits h = subst (λ (r : Result (Option (List ℕ × List ℕ)) TpFault). PacketTells input r) h (packet_tells input fits)

pub packet_partial : (input : List ℕ) → IsBytes input → packet_at input ≡ Ok None → IsPartial input
packet_partial input fits h = subst (λ (r : Result (Option (List ℕ × List ℕ)) TpFault). PacketTells input r) h (packet_tells input fits)

pub packet_bad : (input : List ℕ) (f : TpFault) → IsBytes input → packet_at input ≡ Err f → IsBad input f
packet_bad input f fits h = subst (λ (r : Result (Option (List ℕ × List ℕ)) TpFault). PacketTells input r) h (packet_tells input fits)

-- ---- what is spelled is read

pub packet_again : (tpdu after : List ℕ) → IsTpdu tpdu → packet_at (packet tpdu ++ after) ≡ Ok (Some (tpdu, after))
unfolding packet_at
packet_again tpdu after is =
    let len : (length tpdu + 4) / 256 * 256 + (length tpdu + 4) % 256 ≡ length tpdu + 4 = omega arith in
    let four : length tpdu + 4 - 4 ≡ length tpdu = omega arith in
    rw (len, le-ltb (length tpdu + 4) 7 (omega (arith, is.0)), four, le-ltb (length (tpdu ++ after)) (length tpdu) (omega (arith, length-append tpdu after)), take_at tpdu after (length tpdu) refl, drop_at tpdu after (length tpdu) refl) refl

pub bad_again : (input : List ℕ) (f : TpFault) → IsBad input f → packet_at input ≡ Err f
unfolding packet_at
bad_again input f (inl (same, a, rest, p, ne)) = rw (p, ne_eqb a 3 ne, same) refl
bad_again input f (inr (inl (same, b, rest, p, ne))) = rw (p, ne_eqb b 0 ne, same) refl
bad_again input f (inr (inr (same, c, d, rest, p, lt))) = rw (p, lt-ltb (c * 256 + d) 7 lt, same) refl

pub stays_bad : (input more : List ℕ) (f : TpFault) → IsBad input f → IsBad (input ++ more) f
stays_bad input more f (inl (same, a, rest, p, ne)) = inl (same, a, rest ++ more, ap (λ (x : List ℕ). x ++ more) p, ne)
stays_bad input more f (inr (inl (same, b, rest, p, ne))) = inr (inl (same, b, rest ++ more, ap (λ (x : List ℕ). x ++ more) p, ne))
stays_bad input more f (inr (inr (same, c, d, rest, p, lt))) = inr (inr (same, c, d, rest ++ more, ap (λ (x : List ℕ). x ++ more) p, lt))

abbrev found : List ℕ × List ℕ → Result (Option (List ℕ × List ℕ)) TpFault
found x = Ok (Some x)

pub found_is : (x y : List ℕ × List ℕ) → found x ≡ found y → x ≡ y
found_is x y e = cc

partial_at : (input tpdu more : List ℕ) (r : Result (Option (List ℕ × List ℕ)) TpFault) → IsTpdu tpdu → 0 < length more → packet tpdu ≡ input ++ more → PacketTells input r → r ≡ Ok None
partial_at input tpdu more (Ok None) is some p h = refl
partial_at input tpdu more (Ok (Some (t, after))) is some p h =
    let one : packet_at (input ++ more) ≡ Ok (Some (t, after ++ more)) = ap packet_at (ap (λ (x : List ℕ). x ++ more) h.1 ∙ append_assoc (packet t) after more) ∙ packet_again t (after ++ more) h.0 in
    let two : packet_at (input ++ more) ≡ Ok (Some (tpdu, [])) = ap packet_at (sym p ∙ sym (append-nil (packet tpdu))) ∙ packet_again tpdu [] is in
    let same : after ++ more ≡ [] = ap (λ (x : List ℕ × List ℕ). x.1) (found_is (t, after ++ more) (tpdu, []) (sym one ∙ two)) in
    absurd (omega (arith, some, ap length same, length-append after more))
partial_at input tpdu more (Err f) is some p h =
    let one : packet_at (input ++ more) ≡ Err f = bad_again (input ++ more) f (stays_bad input more f h) in
    let two : packet_at (input ++ more) ≡ Ok (Some (tpdu, [])) = ap packet_at (sym p ∙ sym (append-nil (packet tpdu))) ∙ packet_again tpdu [] is in
    absurd cc

pub partial_again : (input : List ℕ) → IsBytes input → IsPartial input → packet_at input ≡ Ok None
partial_again input fits (tpdu, more, is, some, p) = partial_at input tpdu more (packet_at input) is some p (packet_tells input fits)

-- ---- what is held is topped up

-- the length that a header says, or that of a header where it is not whole
abbrev total_at : List ℕ → ℕ
total_at [] = 4
total_at (a ∷ []) = 4
total_at (a ∷ b ∷ []) = 4
total_at (a ∷ b ∷ c ∷ []) = 4
total_at (a ∷ b ∷ c ∷ d ∷ rest) = c * 256 + d

wanted_is : (h : List ℕ) → wanted_at h ≡ total_at h - length h
unfolding wanted_at
wanted_is [] = refl
wanted_is (a ∷ []) = omega arith
wanted_is (a ∷ b ∷ []) = omega arith
wanted_is (a ∷ b ∷ c ∷ []) = omega arith
wanted_is (a ∷ b ∷ c ∷ d ∷ rest) = omega arith

total_small : (h : List ℕ) → length h < 4 → total_at h ≡ 4
total_small [] lt = refl
total_small (a ∷ []) lt = refl
total_small (a ∷ b ∷ []) lt = refl
total_small (a ∷ b ∷ c ∷ []) lt = refl
total_small (a ∷ b ∷ c ∷ d ∷ rest) lt = absurd (omega arith)

total_front : (h more : List ℕ) → 4 ≤ length h → total_at (h ++ more) ≡ total_at h
total_front [] more le = absurd (omega arith)
total_front (a ∷ []) more le = absurd (omega arith)
total_front (a ∷ b ∷ []) more le = absurd (omega arith)
total_front (a ∷ b ∷ c ∷ []) more le = absurd (omega arith)
total_front (a ∷ b ∷ c ∷ d ∷ rest) more le = refl

total_packet : (tpdu after : List ℕ) → total_at (packet tpdu ++ after) ≡ length tpdu + 4
total_packet tpdu after = omega arith

none_under : (h : List ℕ) → IsPartial h → 4 ≤ length h → length h < total_at h
none_under h (tpdu, more, is, some, p) le =
    let total : total_at h ≡ length tpdu + 4 = sym (total_front h more le) ∙ ap total_at (sym p) ∙ ap total_at (sym (append-nil (packet tpdu))) ∙ total_packet tpdu [] in
    omega (arith, total, some, ap length p, length-append h more)

some_total : (h tpdu after : List ℕ) → IsTpdu tpdu → h ≡ packet tpdu ++ after → (length h ≡ total_at h + length after) × (7 ≤ total_at h)
some_total h tpdu after is p =
    let total : total_at h ≡ length tpdu + 4 = ap total_at p ∙ total_packet tpdu after in
    (omega (arith, total, ap length p, length-append tpdu after), omega (arith, total, is.0))

put_length : (held piece : List ℕ) (count : ℕ) → count ≤ length piece → length (held ++ take count piece) ≡ length held + count
put_length held piece count le = omega (arith, length-append held (take count piece), length-take count piece)

left_length : (piece : List ℕ) (count : ℕ) → length (drop count piece) ≡ length piece - count
left_length piece count = length-drop count piece

numbers_none : (h p c h1 b k h2 r t t1 t2 : ℕ) → c ≡ min (t - h) p → h1 ≡ h + c → b ≡ p - c → k ≡ min (t1 - h1) b → h2 ≡ h1 + k → r ≡ b - k
    → (h < 4 → t ≡ 4) → (4 ≤ h → t1 ≡ t) → (h1 < 4 → t1 ≡ 4) → (4 ≤ h1 → t2 ≡ t1) → (4 ≤ h → h < t) → (4 ≤ h2 → h2 < t2) → r ≡ 0
numbers_none h p c h1 b k h2 r t t1 t2 e1 e2 e3 e4 e5 e6 f1 f2 f3 f4 f5 f6 = grind arith

numbers_some : (h p c h1 b k h2 a t t1 t2 : ℕ) → c ≡ min (t - h) p → h1 ≡ h + c → b ≡ p - c → k ≡ min (t1 - h1) b → h2 ≡ h1 + k
    → (h < 4 → t ≡ 4) → (4 ≤ h → t1 ≡ t) → (h1 < 4 → t1 ≡ 4) → (4 ≤ h1 → t2 ≡ t1) → (4 ≤ h → h < t) → h2 ≡ t2 + a → 7 ≤ t2 → a ≡ 0
numbers_some h p c h1 b k h2 a t t1 t2 e1 e2 e3 e4 e5 f1 f2 f3 f4 f5 f6 f7 = grind arith

moved : (held piece : List ℕ) (count : ℕ) → (held ++ take count piece) ++ drop count piece ≡ held ++ piece
moved held piece count = append_assoc held (take count piece) (drop count piece) ∙ ap (λ (x : List ℕ). held ++ x) (take-append-drop count piece)

pub completes_all : (held piece now rest : List ℕ) → Completes held piece now rest → now ++ rest ≡ held ++ piece
completes_all held piece now rest (headed, behind, one, two) =
    rw (two.0, two.1) (moved headed behind (min (wanted_at headed) (length behind)) ∙ rw (one.0, one.1) (moved held piece (min (wanted_at held) (length piece))))

-- what of the piece was moved to what is held
pub completes_front : (held piece now rest : List ℕ) → Completes held piece now rest → (front : List ℕ) × (piece ≡ front ++ rest) × (now ≡ held ++ front)
completes_front held piece now rest (headed, behind, one, two) =
    let first = take (min (wanted_at held) (length piece)) piece in
    let second = take (min (wanted_at headed) (length behind)) behind in
    let split : piece ≡ first ++ behind = sym (take-append-drop (min (wanted_at held) (length piece)) piece) ∙ ap (λ (x : List ℕ). first ++ x) (sym one.1) in
    let again : behind ≡ second ++ rest = sym (take-append-drop (min (wanted_at headed) (length behind)) behind) ∙ ap (λ (x : List ℕ). second ++ x) (sym two.1) in
    (first ++ second, split ∙ ap (λ (x : List ℕ). first ++ x) again ∙ sym (append_assoc first second rest), two.0 ∙ ap (λ (x : List ℕ). x ++ second) one.0 ∙ append_assoc held first second)

lengths : (held piece now rest : List ℕ) → TopsUp held piece now rest
    → (length now ≡ length held + min (total_at held - length held) (length piece)) × (length rest ≡ length piece - min (total_at held - length held) (length piece))
lengths held piece now rest (moved, left) =
    let le : min (wanted_at held) (length piece) ≤ length piece = omega arith in
    let one : length now ≡ length held + min (wanted_at held) (length piece) = ap length moved ∙ put_length held piece (min (wanted_at held) (length piece)) le in
    let two : length rest ≡ length piece - min (wanted_at held) (length piece) = ap length left ∙ left_length piece (min (wanted_at held) (length piece)) in
    (one ∙ ap (λ (n : ℕ). length held + min n (length piece)) (wanted_is held), two ∙ ap (λ (n : ℕ). length piece - min n (length piece)) (wanted_is held))

pub completes_none : (held piece now rest : List ℕ) → Completes held piece now rest → IsPartial held → IsPartial now → rest ≡ []
completes_none held piece now rest (headed, behind, header, body) before after =
    let one = lengths held piece headed behind header in
    let two = lengths headed behind now rest body in
    nil_from_length rest (numbers_none (length held) (length piece) _ (length headed) (length behind) _ (length now) (length rest) (total_at held) (total_at headed) (total_at now)
    refl one.0 one.1 refl two.0 two.1 (total_small held) (λ le. ap total_at header.0 ∙ total_front held _ le) (total_small headed) (λ le. ap total_at body.0 ∙ total_front headed _ le) (none_under held before) (none_under now after))

pub completes_some : (held piece now rest tpdu after : List ℕ) → Completes held piece now rest → IsPartial held → IsTpdu tpdu → now ≡ packet tpdu ++ after → after ≡ []
completes_some held piece now rest tpdu after (headed, behind, header, body) before is p =
    let one = lengths held piece headed behind header in
    let two = lengths headed behind now rest body in
    let whole = some_total now tpdu after is p in
    nil_from_length after (numbers_some (length held) (length piece) _ (length headed) (length behind) _ (length now) (length after) (total_at held) (total_at headed) (total_at now)
    refl one.0 one.1 refl two.0 (total_small held) (λ le. ap total_at header.0 ∙ total_front held _ le) (total_small headed) (λ le. ap total_at body.0 ∙ total_front headed _ le) (none_under held before) whole.0 whole.1)

-- ---- the whole

matches : (input : List ℕ) (r : Result (Option (List ℕ × List ℕ)) TpFault) → PacketTells input r → MatchResult r (λ o. MatchOption o (IsPartial input) (λ p. IsTpdu p.0 × (input ≡ packet p.0 ++ p.1))) (λ f. IsBad input f)
matches input (Ok None) h = h
matches input (Ok (Some x)) h = h
matches input (Err f) h = h

pub packet_matches : (input : List ℕ) → IsBytes input → MatchResult (packet_at input) (λ o. MatchOption o (IsPartial input) (λ p. IsTpdu p.0 × (input ≡ packet p.0 ++ p.1))) (λ f. IsBad input f)
packet_matches input fits = matches input (packet_at input) (packet_tells input fits)

-- no TPKT begins another
pub packet_free : (tpdu after other more : List ℕ) → IsTpdu tpdu → IsTpdu other → packet tpdu ++ after ≡ packet other ++ more → (tpdu ≡ other) × (after ≡ more)
packet_free tpdu after other more is also e =
    let same = found_is (tpdu, after) (other, more) (sym (packet_again tpdu after is) ∙ ap packet_at e ∙ packet_again other more also) in
    (ap (λ (x : List ℕ × List ℕ). x.0) same, ap (λ (x : List ℕ × List ℕ). x.1) same)
