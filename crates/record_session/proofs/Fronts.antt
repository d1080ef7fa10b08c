-- Of the answers to what was read the sink took a front.
use Rattle.std.proofs.Common.{◌≡◌, ◌≤◌, ◌+◌, ◌-◌, ℕ, List, [], ◌++◌, length, take, drop, sym, ap, ◌∙◌, arith, subst, append_assoc, append-nil, length-append, take-append-drop}
use Rattle.std.specs.Prelude.{Option, None, Some, nat_lt}
use Rattle.std.specs.Io.KnownBytes.{Appends, Consumes}
use Rattle.std.proofs.Math.Seq.{take-append_seam}
use Rattle.std.proofs.KnownBytes.{Appends-trans, Appends-nil, Consumes-nil, Consumes-trans}
use Rattle.sv_io.specs.Causes.{GrowsByFront}
use Rattle.list_laws.proofs.Appended.{take-front}
use Rattle.record_outcome.specs.Moves.{opening}
use Rattle.record_outcome.specs.Records.{Outcome, limit, pieces, run, outcome}
use Rattle.record_outcome.proofs.HistoryLaws.{text_is_of_history}
use Rattle.record_session.specs.Sessions.{Fed, FeedsOn, Feeds}
use Rattle.record_session.specs.Runs.{Run}
use Rattle.record_session.specs.Fronts.{WritesFront, Begins, BeginsOn}
use Rattle.record_session.specs.declared.reader.Reader.{Reader}
use Rattle.record_outcome.specs.declared.status.Status.{Status}

-- what the answers to some octets begin with, those to more begin with too
begins-more : (octets piece written : List ℕ) → Begins octets written → Begins (octets ++ piece) written
begins-more octets piece written b = λ long more.
    let of = b long (piece ++ more) in
    (of.0, ap (λ o. (run long 0 opening (pieces o)).text) (append_assoc octets piece more) ∙ of.1)

fed-begins : (reader : Reader) (octets written : List ℕ) → Fed reader octets written → Begins octets written
fed-begins reader octets written f = λ long more. (
  (run long reader.session.lines f.reads.place (pieces (reader.held.items ++ more))).text,
  ap (λ o. (run long 0 opening (pieces o)).text) (ap (λ o. o ++ more) f.split ∙ append_assoc f.whole reader.held.items more)
      ∙ ap (λ (o : Outcome). o.text) (f.reads.same long (reader.held.items ++ more)),
)

feeds-begin : (stop : Option Status) (reader : Reader) (octets written : List ℕ) → FeedsOn stop reader octets written → Begins octets written
feeds-begin None reader octets written f = fed-begins reader octets written f
feeds-begin (Some status) reader octets written s = λ long more. ([], ap (λ (o : Outcome). o.text) (s long more) ∙ sym (append-nil written))

front-begins : (octets written added : List ℕ) (n : ℕ) → Begins octets (written ++ added) → Begins octets (written ++ take n added)
front-begins octets written added n b = λ long more. let of = b long more in (drop n added ++ of.0, of.1 ∙ whole of.0) where
  whole : (rest : List ℕ) → (written ++ added) ++ rest ≡ (written ++ take n added) ++ (drop n added ++ rest)
  whole rest = ap (λ a. (written ++ a) ++ rest) (sym (take-append-drop n added))
      ∙ (ap (λ w. w ++ rest) (sym (append_assoc written (take n added) (drop n added))) ∙ append_assoc (written ++ take n added) (drop n added) rest)

-- nothing of a piece is answered
pub begins-none : (reader : Reader) (piece : List ℕ) (told : Option (List ℕ)) → BeginsOn reader piece told told
begins-none reader piece told = λ so_far written f. record {
  added = [];
  taken = Appends-nil told;
  begins = subst (Begins (so_far ++ piece)) (sym (append-nil written)) (begins-more so_far piece written (fed-begins reader so_far written f));
}

-- the sink took the answers to it, or a front of them
module _ (stop : Option Status) (old new : Reader) (piece before now : List ℕ) (told then : Option (List ℕ)) (none : before ≡ []) (feeds : Feeds stop old new piece before now) where
  pub begins-all : Appends told then now → BeginsOn old piece told then
  begins-all took = λ so_far written f.
      let fed = feeds so_far written f in
      record {
        added = fed.added;
        taken = subst (Appends told then) (fed.out ∙ ap (λ o. o ++ fed.added) none) took;
        begins = feeds-begin stop new (so_far ++ piece) (written ++ fed.added) fed.on;
      }

  pub begins-front : GrowsByFront told then now → BeginsOn old piece told then
  begins-front grows = λ so_far written f.
      let fed = feeds so_far written f in
      record {
        added = take grows.0 fed.added;
        taken = subst (λ o. Appends told then (take grows.0 o)) (fed.out ∙ ap (λ o. o ++ fed.added) none) grows.2;
        begins = front-begins (so_far ++ piece) written fed.added grows.0 (feeds-begin stop new (so_far ++ piece) (written ++ fed.added) fed.on);
      }

grows-front : (old new : Option (List ℕ)) (written rest text : List ℕ) → text ≡ written ++ rest → Appends old new written → GrowsByFront old new text
grows-front old new written rest text is took = (
  length written,
  omega (arith, ap length is, length-append written rest),
  subst (Appends old new) (sym (ap (take (length written)) is ∙ take-append_seam written rest)) took,
)

writes-front : (left now taken told : Option (List ℕ)) (octets more written : List ℕ) → length octets ≤ limit → Consumes left now (octets ++ more) → Appends taken told written → Begins octets written
    → WritesFront left now taken told
unfolding outcome
writes-front left now taken told octets more written low eaten took b =
    let of = b (nat_lt limit (length (octets ++ more))) (take (limit - length octets) more) in
    record {
      octets = octets ++ more;
      taken = eaten;
      front = grows-front taken told written of.0 (outcome (octets ++ more)).text
          (ap (λ o. (run (nat_lt limit (length (octets ++ more))) 0 opening (pieces o)).text) (take-front limit octets more low) ∙ of.1) took;
      written = text_is_of_history (octets ++ more);
    }

-- what was read so far is answered, and nothing after it
pub run-front : (reader : Reader) (left mid now taken told : Option (List ℕ)) (count : ℕ) (more : List ℕ) → Run reader left mid taken told count → Consumes mid now more → count ≤ limit → WritesFront left now taken told
run-front reader left mid now taken told count more r eaten low =
    writes-front left now taken told r.octets more r.written (omega (arith, r.counted, low)) (Consumes-trans left mid now r.octets more r.consumed eaten) r.took (fed-begins reader r.octets r.written r.fed)

-- and a piece after it, or a part of it
pub piece-front : (reader : Reader) (left mid now taken told then : Option (List ℕ)) (count : ℕ) (piece : List ℕ) → Run reader left mid taken told count → Consumes mid now piece → BeginsOn reader piece told then
    → count + length piece ≤ limit → WritesFront left now taken then
piece-front reader left mid now taken told then count piece r eaten on low =
    let b = on r.octets r.written r.fed in
    writes-front left now taken then (r.octets ++ piece) [] (r.written ++ b.added) (omega (arith, length-append r.octets piece, r.counted, low))
    (Consumes-trans left now now (r.octets ++ piece) [] (Consumes-trans left mid now r.octets piece r.consumed eaten) (Consumes-nil now)) (Appends-trans taken told then r.written b.added r.took b.taken) b.begins
