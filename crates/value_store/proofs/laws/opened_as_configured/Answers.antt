-- why `laws::opened_as_configured` answers as its contract says
use Rattle.value_store.proofs.OpenedLaws.{length_opened, opened_stands, opened_kinds, opened_writable}
use Rattle.value_store.proofs.laws.opened_as_configured.Goals as goal

pub returns-clause-count : goal.returns-clause-count
returns-clause-count c = length_opened

pub returns-clause-stands : goal.returns-clause-stands
returns-clause-stands c = opened_stands

pub returns-clause-kinds : goal.returns-clause-kinds
returns-clause-kinds c = opened_kinds

pub returns-clause-writable : goal.returns-clause-writable
returns-clause-writable c = opened_writable
