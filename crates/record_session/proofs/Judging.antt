-- From what was read and written to the status.
use Rattle.std.proofs.Common.{◌≡◌, ◌≤◌, ◌<◌, ◌+◌, ◌-◌, ℕ, suc, List, [], ◌++◌, length, take, refl, sym, ap, ◌∙◌, arith, Bool, true, false, subst, append_assoc, append-nil, length-append}
use Rattle.std.specs.Prelude.{Option, None, Some, IfSome, nat_lt}
use Rattle.std.specs.Io.KnownBytes.{Appends, Consumes, IsAtEnd}
use Rattle.std.proofs.lemmas.Bool.{lt-ltb}
use Rattle.std.proofs.lemmas.List.{take_all, take-append-le}
use Rattle.record_outcome.specs.Moves.{Place, opening}
use Rattle.record_outcome.specs.Records.{Outcome, limit, pieces, run, has_begun, ended, outcome, NoNewline}
use Rattle.record_session.specs.Sessions.{IsAt, Stopped, Fed, Takes}
use Rattle.record_session.specs.Runs.{Run}
use Rattle.record_outcome.specs.Judgements.{Answers}
use Rattle.record_session.specs.declared.reader.Reader.{Reader}
use Rattle.record_outcome.specs.declared.status.Status.{Status}
use Rattle.record_session.proofs.ReadingOn.{fed-ends}
use Rattle.list_laws.proofs.Appended.{take-front}
use Rattle.std.proofs.KnownBytes.{Appends-trans, Appends-nil, Consumes-nil, Consumes-trans}
use Rattle.list_laws.proofs.Places.{not-below}

not_long : (b : List ℕ) → length b ≤ limit → nat_lt limit (length b) ≡ false
not_long b h = not-below limit (length b) h

-- the octets up to the limit come to this
answers-by : (b octets written : List ℕ) (long : Bool) (status : Status) (old new : Option (List ℕ)) → take limit b ≡ octets → run long 0 opening (pieces octets) ≡ record { status = status; text = written }
    → nat_lt limit (length b) ≡ long → Appends old new written → Answers b status old new
unfolding outcome
answers-by b octets written long status old new front mine is took = told (whole (nat_lt limit (length b)) long is)
  where
    whole : (l k : Bool) → l ≡ k → run l 0 opening (pieces (take limit b)) ≡ run k 0 opening (pieces octets)
    whole l k e = ap (λ t. run t 0 opening (pieces (take limit b))) e ∙ ap (λ o. run k 0 opening (pieces o)) front

    told : outcome b ≡ run long 0 opening (pieces octets) → Answers b status old new
    told e = (sym (ap (λ (o : Outcome). o.status) (e ∙ mine)), subst (Appends old new) (sym (ap (λ (o : Outcome). o.text) (e ∙ mine))) took)

pub run-none : (reader : Reader) (left taken : Option (List ℕ)) → Fed reader [] [] → Run reader left left taken taken 0
run-none reader left taken fed = record { octets = []; written = []; consumed = Consumes-nil left; took = Appends-nil taken; fed = fed; counted = refl }

-- a piece more
pub run-more : (old new : Reader) (left mid now taken told then : Option (List ℕ)) (count : ℕ) (piece : List ℕ) → Run old left mid taken told count → Consumes mid now piece → Takes None old new piece told then
    → Run new left now taken then (count + length piece)
run-more old new left mid now taken told then count piece r eaten takes =
    let t = takes r.octets r.written r.fed in
    record {
      octets = r.octets ++ piece;
      written = r.written ++ t.added;
      consumed = Consumes-trans left mid now r.octets piece r.consumed eaten;
      took = Appends-trans taken told then r.written t.added r.took t.taken;
      fed = t.on;
      counted = length-append r.octets piece ∙ ap (λ n. n + length piece) r.counted;
    }

-- the reading stops in a piece
pub run-stops : (old new : Reader) (left mid now taken told then : Option (List ℕ)) (count : ℕ) (piece : List ℕ) (status : Status) → Run old left mid taken told count → Consumes mid now piece
    → Takes (Some status) old new piece told then → count + length piece ≤ limit → IfSome left (λ b. Answers b status taken then)
run-stops old new None mid now taken told then count piece status r eaten takes low = tt
run-stops old new (Some b) mid now taken told then count piece status r eaten takes low =
    let t = takes r.octets r.written r.fed in
    stopped now t.added (Consumes-trans (Some b) mid now r.octets piece r.consumed eaten) (Appends-trans taken told then r.written t.added r.took t.taken) t.on
  where
    stopped : (now : Option (List ℕ)) (added : List ℕ) → Consumes (Some b) now (r.octets ++ piece) → Appends taken then (r.written ++ added)
        → Stopped status (r.octets ++ piece) (r.written ++ added) → Answers b status taken then
    stopped None added eaten took goes = absurd eaten
    stopped (Some rest) added eaten took goes =
        let fits : length (r.octets ++ piece) ≤ limit = omega (arith, length-append r.octets piece, r.counted, low) in
        let front : take limit b ≡ (r.octets ++ piece) ++ take (limit - length (r.octets ++ piece)) rest = ap (take limit) eaten ∙ take-front limit (r.octets ++ piece) rest fits in
        answers-by b _ _ (nat_lt limit (length b)) status taken then front (goes (nat_lt limit (length b)) (take (limit - length (r.octets ++ piece)) rest)) refl took

-- the status is that of the line that isn't there
abbrev pub IsEnded : Status → Bool → Reader → Type 0
IsEnded status long reader = (place : Place) → IsAt reader.session.stage place → status ≡ ended long (has_begun reader.held.items) (suc reader.session.lines) place

-- the source has ended before the limit
pub run-ends : (reader : Reader) (left mid now taken told : Option (List ℕ)) (count : ℕ) (status : Status) → Run reader left mid taken told count → Consumes mid now [] → IsAtEnd now → NoNewline reader.held.items → count ≤ limit
    → IsEnded status false reader → IfSome left (λ b. Answers b status taken told)
run-ends reader None mid now taken told count status r eaten end part low by = tt
run-ends reader (Some b) mid now taken told count status r eaten end part low by =
    ended_ now (Consumes-trans (Some b) mid now r.octets [] r.consumed eaten) end
  where
    ended_ : (now : Option (List ℕ)) → Consumes (Some b) now (r.octets ++ []) → IsAtEnd now → Answers b status taken told
    ended_ None eaten end = absurd eaten
    ended_ (Some rest) eaten end =
        let whole : b ≡ r.octets = eaten ∙ (ap (λ o. (r.octets ++ []) ++ o) end ∙ (append-nil (r.octets ++ []) ∙ append-nil r.octets)) in
        let short : length b ≤ limit = omega (arith, ap length whole, r.counted, low) in
        answers-by b r.octets r.written false status taken told (take_all limit b short ∙ whole) (fed-ends reader r.octets r.written false status r.fed part by) (not_long b short) r.took

-- the limit is passed
pub run-passes : (reader : Reader) (left mid now taken told : Option (List ℕ)) (count : ℕ) (more : List ℕ) (status : Status) → Run reader left mid taken told count → Consumes mid now more → 0 < length more → NoNewline reader.held.items
    → count ≡ limit → IsEnded status true reader → IfSome left (λ b. Answers b status taken told)
run-passes reader None mid now taken told count more status r eaten some part full by = tt
run-passes reader (Some b) mid now taken told count more status r eaten some part full by =
    passed now (Consumes-trans (Some b) mid now r.octets more r.consumed eaten)
  where
    passed : (now : Option (List ℕ)) → Consumes (Some b) now (r.octets ++ more) → Answers b status taken told
    passed None eaten = absurd eaten
    passed (Some rest) eaten =
        let all : b ≡ r.octets ++ (more ++ rest) = eaten ∙ append_assoc r.octets more rest in
        let front : take limit b ≡ r.octets = ap (take limit) all ∙ (take-append-le limit r.octets (more ++ rest) (omega (arith, r.counted, full)) ∙ take_all limit r.octets (omega (arith, r.counted, full))) in
        let long : limit < length b = omega (arith, ap length all, length-append r.octets (more ++ rest), length-append more rest, r.counted, full, some) in
        answers-by b r.octets r.written true status taken told front (fed-ends reader r.octets r.written true status r.fed part by) (lt-ltb limit (length b) long) r.took
