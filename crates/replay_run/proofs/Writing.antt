-- A text that is written in pieces.
use Rattle.std.proofs.Common.{◌≡◌, ℕ, List, [], ◌++◌, sym, ap, ◌∙◌, append_assoc, append-nil}
use Rattle.std.specs.Prelude.{Option}
use Rattle.std.specs.Io.KnownBytes.{Appends}
use Rattle.std.proofs.KnownBytes.{Appends-trans}

-- a front of the text was written, and this is what is left of it
pub record WrittenSoFar (old new : Option (List ℕ)) (text left : List ℕ) : Type 0 where
  pub front : List ℕ
  pub appended : Appends old new front
  pub joined : text ≡ front ++ left

pub written_more : (old mid new : Option (List ℕ)) (text left piece rest : List ℕ) → WrittenSoFar old mid text left → left ≡ piece ++ rest → Appends mid new piece → WrittenSoFar old new text rest
written_more old mid new text left piece rest w is more = record {
  front = w.front ++ piece;
  appended = Appends-trans old mid new w.front piece w.appended more;
  joined = w.joined ∙ (ap (λ l. w.front ++ l) is ∙ sym (append_assoc w.front piece rest));
}

pub written_whole : (old new : Option (List ℕ)) (text left : List ℕ) → WrittenSoFar old new text left → left ≡ [] → Appends old new text
written_whole old new text left w is = rw (w.joined, is, append-nil) w.appended
