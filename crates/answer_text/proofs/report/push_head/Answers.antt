-- why `report::push_head` answers as its contract says
use Rattle.std.proofs.Common.{refl, append_assoc}
use Rattle.answer_text.proofs.report.push_head.Goals as goal

pub returns-clause-ok : goal.returns-clause-ok
returns-clause-ok c = rw (
  c.in_ok-push_overflow.ensures.ok,
  c.in_ok-push_number-4.ensures.ok,
  c.in_ok-extend_from_slice-4.ensures.items,
  c.in_ok-push_number-3.ensures.ok,
  c.in_ok-extend_from_slice-3.ensures.items,
  c.in_ok-push_number-2.ensures.ok,
  c.in_ok-extend_from_slice-2.ensures.items,
  c.in_ok-push_block.ensures.ok,
  c.in_ok-extend_from_slice.ensures.items,
  c.in_ok-push_number.ensures.ok,
  c.ms.ensures.value,
  c.from-2.ensures,
  c.from.ensures,
) (simp append_assoc refl)
