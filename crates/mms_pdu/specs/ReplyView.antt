-- A view of the program as what a server sends.
use Rattle.std.specs.Prelude.{◌≡◌, ℕ, List}
use Rattle.std.specs.Borrow.{Bor}
use Rattle.ber_grammar.specs.Place.{Piece, piece, IsEndOf}
use Rattle.mms_pdu.specs.declared.reply_view.ReplyView.{ReplyView}
use Rattle.mms_pdu.specs.declared.reply_view.ReplyView.TheVariants.{Answer, Error, Reject, Concluded, Information}
use Rattle.mms_pdu.specs.Reply.{Reply, answer, error, reject, concluded, information}

abbrev pub reply_of : ReplyView → Reply Piece
reply_of (Answer invoke tag body) = answer invoke tag (piece body)
reply_of (Error invoke class code) = error invoke class code
reply_of (Reject invoke code) = reject invoke code
reply_of Concluded = concluded
reply_of (Information pdu) = information (piece pdu)

-- A body is the end of the input, and a report the input itself.
abbrev pub IsPlaced : Bor (List ℕ) → ReplyView → Type 0
IsPlaced whole (Answer invoke tag body) = IsEndOf body whole
IsPlaced whole (Error invoke class code) = Unit {0}
IsPlaced whole (Reject invoke code) = Unit {0}
IsPlaced whole Concluded = Unit {0}
IsPlaced whole (Information pdu) = (pdu.ref_ptr.0 ≡ whole.ref_ptr.0) × (pdu.ref_ptr.1 ≡ whole.ref_ptr.1) × (pdu.now ≡ whole.now)
