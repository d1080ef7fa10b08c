-- why `window::Window::add` answers as its contract says
use Rattle.std.proofs.Common.{rules, ◌≡◌, ◌∙◌, ap, sym, ℕ, false, true, None, Some, inl, inr}
use Rattle.std.proofs.lemmas.Bool.Decides.{eqb_tells}
use Rattle.std.specs.Prelude.{◌==◌, if◌then◌else◌}
use Rattle.sv_base.specs.Filled.{Filled}
use Rattle.window_core.specs.Pieces.{pieces, insert_all, mentions, octets_of}
use Rattle.window_core.specs.Slots.{Slotted}
use Rattle.window_core.specs.Windows.{Windowed, joined, told, ends}
use Rattle.window_core.proofs.RowLaws.{row-sorted, row-numbers, mentions-none}
use Rattle.window_core.proofs.WindowLaws.{met-ends}
use Rattle.window_core.proofs.window.Window.add.Goals as goal

pub put_all-requires-clause-apart : goal.put_all-requires-clause-apart
put_all-requires-clause-apart c = ap (mentions c.args.note.now) (c.self.invariant.0 (c.self.invariant.1 (search rules))) ∙ mentions-none c.args.note.now

not-zero : (n : ℕ) → (n ≡ 0 → ⊥) → (n == 0) ≡ false
not-zero n h = elim (eqb_tells n 0) [ inl t ↦ absurd (h t.1) | inr t ↦ t.0 ]

is-zero : (n : ℕ) → n ≡ 0 → (n == 0) ≡ true
is-zero n h = elim (eqb_tells n 0) [ inl t ↦ t.0 | inr t ↦ absurd (t.1 h) ]

pub returns-then-self-eq0-clause-told : goal.returns-then-self-eq0-clause-told
returns-then-self-eq0-clause-told c =
    let ps = pieces c.args.note.now c.args.bytes.now.items in
    let put : c.put_all.new.self.pieces ≡ ps = ap (λ (s : Slotted). s.pieces) c.put_all.ensures ∙ (ap (insert_all ps) (c.self.invariant.0 (c.self.invariant.1 c.if-self-eq0.true)) ∙ row-sorted c.args.self.now.members 0 ps c.requires.row) in
    let zero = is-zero c.args.self.now.buf_tm (sym (ap (λ (w : Windowed). w.buf_tm) c.self.view_is) ∙ c.if-self-eq0.true) in
    ap (λ o. Some (c.args.now, o)) (ap (λ (f : Filled ℕ). f.items) c.pour.ensures.poured ∙ ap octets_of put)
    ∙ ap (λ t. told (if t then Some (joined c.args.now ps None) else (if ends c.args.now ps c.args.self.now then c.args.self.now.gathered else None))) (sym zero)

pub end_before-closed-requires-clause-numbers : goal.end_before-closed-requires-clause-numbers
end_before-closed-requires-clause-numbers c = row-numbers c.args.self.now.members c.args.note.now c.args.bytes.now.items c.requires.count c.requires.row

pub returns-clause-told : goal.returns-clause-told
returns-clause-told c =
    let ps = pieces c.args.note.now c.args.bytes.now.items in
    let some = not-zero c.args.self.now.buf_tm (λ z. c.if-self-eq0.false (ap (λ (w : Windowed). w.buf_tm) c.self.view_is ∙ z)) in
    c.end_before-closed.ensures.told
    ∙ (ap (λ t. told (if t then c.args.self.now.gathered else None)) (met-ends c.args.now c.args.self.now c.args.note.now c.args.bytes.now.items c.requires.count)
    ∙ ap (λ z. told (if z then Some (joined c.args.now ps None) else (if ends c.args.now ps c.args.self.now then c.args.self.now.gathered else None))) (sym some))

pub returns-clause-left : goal.returns-clause-left
returns-clause-left c =
    let ps = pieces c.args.note.now c.args.bytes.now.items in
    let some = not-zero c.args.self.now.buf_tm (λ z. c.if-self-eq0.false (ap (λ (w : Windowed). w.buf_tm) c.self.view_is ∙ z)) in
    c.gather.ensures
    ∙ (ap (λ (w : Windowed). record { members = w.members; buf_tm = w.buf_tm; gathered = Some (joined c.args.now ps w.gathered) }) c.end_before-closed.ensures.left
    ∙ (ap (λ t. record { members = c.args.self.now.members; buf_tm = c.args.self.now.buf_tm; gathered = Some (joined c.args.now ps (if t then None else c.args.self.now.gathered)) }) (met-ends c.args.now c.args.self.now c.args.note.now c.args.bytes.now.items c.requires.count)
    ∙ ap (λ z. record { members = c.args.self.now.members; buf_tm = c.args.self.now.buf_tm; gathered = if z then None else Some (joined c.args.now ps (if ends c.args.now ps c.args.self.now then None else c.args.self.now.gathered)) }) (sym some)))
