-- What PDUs are to a client.
use Rattle.std.proofs.Common.{◌≡◌, ℕ, inl, inr, List, Result, subst}
use Rattle.sv_base.specs.Tree.{Seen}
use Rattle.mms_pdu.specs.Reply.{answer}
use Rattle.mms_pdu.specs.Results.{SaysRead, SaysWritten}
use Rattle.mms_client.specs.declared.meaning.Awaited.{Awaited}
use Rattle.mms_client.specs.declared.meaning.Awaited.TheVariants as awaits
use Rattle.mms_client.specs.Meaning.{Fits}

pub no_read : (w : Awaited) (asked invoke tag : ℕ) (body : List ℕ) → w ≡ awaits.Read asked → ((r : Result Seen ℕ) → SaysRead body r → ⊥) → Fits w (answer invoke tag body) → ⊥
no_read w asked invoke tag body is none fits = by (subst (λ (x : Awaited). Fits x (answer invoke tag body)) is fits)
  where
    by : Fits (awaits.Read asked) (answer invoke tag body) → ⊥
    by (inl (v, says)) = none v says.2
    by (inr (class, code, d)) = d

pub no_write : (w : Awaited) (asked invoke tag : ℕ) (body : List ℕ) → w ≡ awaits.Write asked → ((r : Result (Unit {0}) ℕ) → SaysWritten body r → ⊥) → Fits w (answer invoke tag body) → ⊥
no_write w asked invoke tag body is none fits = by (subst (λ (x : Awaited). Fits x (answer invoke tag body)) is fits)
  where
    by : Fits (awaits.Write asked) (answer invoke tag body) → ⊥
    by (inl (v, says)) = none v says.2
    by (inr (class, code, d)) = d
