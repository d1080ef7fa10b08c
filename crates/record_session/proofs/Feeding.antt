-- Lines one after the other, and pieces of them.
use Rattle.std.proofs.Common.{◌≡◌, ℕ, List, [], ◌∷◌, ◌++◌, refl, sym, ap, subst, ◌∙◌, append_assoc, append-nil}
use Rattle.std.specs.Prelude.{Option, None, Some}
use Rattle.record_outcome.specs.Moves.{opening}
use Rattle.record_outcome.specs.Records.{pieces, run}
use Rattle.record_session.specs.Sessions.{Reads, GoesOn, Moves, LinesRead, FeedsOn, Feeds}
use Rattle.record_outcome.specs.declared.status.Status.{Status}
use Rattle.record_session.specs.declared.session.Session.{Session}
use Rattle.record_session.specs.declared.reader.Reader.{Reader}

pub as_written : (session : Session) (octets written : List ℕ) → Reads session octets written → Reads session octets (written ++ [])
as_written session octets written r = subst (Reads session octets) (sym (append-nil written)) r

-- of the octets the lines before the rest were read
pub record HasRead (old new : Session) (octets rest before now : List ℕ) : Type 0 where
  pub done : List ℕ
  pub split : octets ≡ done ++ rest
  pub moves : Moves None old new done before now

pub read-none : (session : Session) (octets before : List ℕ) → HasRead session session octets octets before before
read-none session octets before = record {
  done = [];
  split = refl;
  moves = λ so_far written r. record { added = []; out = sym (append-nil before); on = subst (λ o. Reads session o (written ++ [])) (sym (append-nil so_far)) (as_written session so_far written r) };
}

goes-same : (stop : Option Status) (new : Session) (a b w v : List ℕ) → a ≡ b → w ≡ v → GoesOn stop new a w → GoesOn stop new b v
goes-same stop new a b w v e f g = subst (λ o. GoesOn stop new o v) e (subst (GoesOn stop new a) f g)

-- octets that were read, and then more of them
pub moves-then : (stop : Option Status) (old mid new : Session) (first second before between now : List ℕ) → Moves None old mid first before between → Moves stop mid new second between now
    → Moves stop old new (first ++ second) before now
moves-then stop old mid new first second before between now f g = λ so_far written r.
    let a = f so_far written r in
    let b = g (so_far ++ first) (written ++ a.added) a.on in
    record {
      added = a.added ++ b.added;
      out = b.out ∙ (ap (λ o. o ++ b.added) a.out ∙ append_assoc before a.added b.added);
      on = goes-same stop new _ _ _ _ (append_assoc so_far first second) (append_assoc written a.added b.added) b.on;
    }

pub read-more : (stop : Option Status) (old mid new : Session) (octets rest line after before between now : List ℕ) → HasRead old mid octets rest before between → rest ≡ line ++ 10 ∷ after
    → Moves stop mid new (line ++ 10 ∷ []) between now → (done : List ℕ) × (octets ≡ done ++ after) × Moves stop old new done before now
read-more stop old mid new octets rest line after before between now h is g = (
  h.done ++ (line ++ 10 ∷ []),
  h.split ∙ (ap (λ o. h.done ++ o) (is ∙ sym (append_assoc line (10 ∷ []) after)) ∙ sym (append_assoc h.done (line ++ 10 ∷ []) after)),
  moves-then stop old mid new h.done (line ++ 10 ∷ []) before between now h.moves g,
)

stopped-at : (whole done rest more so_far piece : List ℕ) → so_far ≡ whole → piece ≡ done ++ rest → (whole ++ done) ++ (rest ++ more) ≡ (so_far ++ piece) ++ more
stopped-at whole done rest more so_far piece e f = rw (e, f) (simp append_assoc refl)

-- nothing is held back: what is fed is lines and the rest of them
pub feeds-lines : (stop : Option Status) (old new : Reader) (piece rest before now : List ℕ) → old.held.items ≡ [] → LinesRead stop rest old.session new.session piece before now → (stop ≡ None → new.held.items ≡ rest)
    → Feeds stop old new piece before now
feeds-lines None old new piece rest before now none read held = λ so_far written f.
    let whole : so_far ≡ f.whole = f.split ∙ (ap (λ h. f.whole ++ h) none ∙ append-nil f.whole) in
    let m = read.moves f.whole written f.reads in
    record {
      added = m.added;
      out = m.out;
      on = record {
        whole = f.whole ++ read.done;
        split = ap (λ o. o ++ piece) whole ∙ (ap (λ p. f.whole ++ p) read.split ∙ (sym (append_assoc f.whole read.done rest) ∙ ap (λ h. (f.whole ++ read.done) ++ h) (sym (held refl))));
        reads = m.on;
      };
    }
feeds-lines (Some status) old new piece rest before now none read held = λ so_far written f.
    let whole : so_far ≡ f.whole = f.split ∙ (ap (λ h. f.whole ++ h) none ∙ append-nil f.whole) in
    let m = read.moves f.whole written f.reads in
    record {
      added = m.added;
      out = m.out;
      on = λ long more. ap (λ o. run long 0 opening (pieces o)) (sym (stopped-at f.whole read.done rest more so_far piece whole read.split)) ∙ m.on long (rest ++ more);
    }

-- a line that ends in the piece stops the reading, or the rest of the piece is fed
pub holds-on : (old new : Reader) (piece before : List ℕ) → new.session ≡ old.session → new.held.items ≡ old.held.items ++ piece → Feeds None old new piece before before
holds-on old new piece before same held = λ so_far written f. record {
  added = [];
  out = sym (append-nil before);
  on = record {
    whole = f.whole;
    split = ap (λ o. o ++ piece) f.split ∙ (append_assoc f.whole old.held.items piece ∙ ap (λ h. f.whole ++ h) (sym held));
    reads = subst (λ s. Reads s f.whole (written ++ [])) (sym same) (as_written old.session f.whole written f.reads);
  };
}

held-at : (whole held end after more so_far piece : List ℕ) → so_far ≡ whole ++ held → piece ≡ end ++ 10 ∷ after → (whole ++ ((held ++ end) ++ 10 ∷ [])) ++ (after ++ more) ≡ (so_far ++ piece) ++ more
held-at whole held end after more so_far piece e f = rw (e, f) (simp append_assoc refl)

then-at : (whole held end after so_far piece : List ℕ) → so_far ≡ whole ++ held → piece ≡ end ++ 10 ∷ after → (whole ++ ((held ++ end) ++ 10 ∷ [])) ++ after ≡ so_far ++ piece
then-at whole held end after so_far piece e f = rw (e, f) (simp append_assoc refl)

feeds-same : (stop : Option Status) (new : Reader) (a b w v : List ℕ) → a ≡ b → w ≡ v → FeedsOn stop new a w → FeedsOn stop new b v
feeds-same stop new a b w v e f g = subst (λ o. FeedsOn stop new o v) e (subst (FeedsOn stop new a) f g)

-- the line that was held back ends in the piece, and stops the reading
pub feeds-stop : (status : Status) (old new : Reader) (piece end after before now : List ℕ) → piece ≡ end ++ 10 ∷ after → Moves (Some status) old.session new.session ((old.held.items ++ end) ++ 10 ∷ []) before now
    → Feeds (Some status) old new piece before now
feeds-stop status old new piece end after before now is g = λ so_far written f.
    let m = g f.whole written f.reads in
    record { added = m.added; out = m.out; on = λ long more. ap (λ o. run long 0 opening (pieces o)) (sym (held-at f.whole old.held.items end after more so_far piece f.split is)) ∙ m.on long (after ++ more) }

-- it is read, and what follows it is fed
pub feeds-then : (stop : Option Status) (old mid new : Reader) (piece end after before between now : List ℕ) → piece ≡ end ++ 10 ∷ after → Moves None old.session mid.session ((old.held.items ++ end) ++ 10 ∷ []) before between
    → mid.held.items ≡ [] → Feeds stop mid new after between now → Feeds stop old new piece before now
feeds-then stop old mid new piece end after before between now is g none next = λ so_far written f.
    let m = g f.whole written f.reads in
    let whole : f.whole ++ ((old.held.items ++ end) ++ 10 ∷ []) ≡ (f.whole ++ ((old.held.items ++ end) ++ 10 ∷ [])) ++ mid.held.items = sym (ap (λ h. (f.whole ++ ((old.held.items ++ end) ++ 10 ∷ [])) ++ h) none ∙ append-nil (f.whole ++ ((old.held.items ++ end) ++ 10 ∷ []))) in
    let n = next (f.whole ++ ((old.held.items ++ end) ++ 10 ∷ [])) (written ++ m.added) (record { whole = f.whole ++ ((old.held.items ++ end) ++ 10 ∷ []); split = whole; reads = m.on }) in
    record {
      added = m.added ++ n.added;
      out = n.out ∙ (ap (λ o. o ++ n.added) m.out ∙ append_assoc before m.added n.added);
      on = feeds-same stop new _ _ _ _ (then-at f.whole old.held.items end after so_far piece f.split is) (append_assoc written m.added n.added) n.on;
    }
