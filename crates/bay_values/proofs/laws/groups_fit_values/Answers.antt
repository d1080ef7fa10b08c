-- why `laws::groups_fit_values` answers as its contract says
use Rattle.bay_values.proofs.GroupLaws.{active-typed, are-held-once, are-put, copy-sound, grouped-first, loadable}
use Rattle.bay_values.proofs.laws.groups_fit_values.Goals as goal

pub returns-clause-opened : goal.returns-clause-opened
returns-clause-opened c = grouped-first

pub returns-clause-loadable : goal.returns-clause-loadable
returns-clause-loadable c = λ d stored s served held fit. loadable d served stored held s fit

pub returns-clause-typed : goal.returns-clause-typed
returns-clause-typed c = λ d stored s domain served held fit. active-typed d served stored held s fit domain

pub returns-clause-put : goal.returns-clause-put
returns-clause-put c = λ d stored s settings served held fit typed. are-put d served stored held s fit settings typed

pub returns-clause-held : goal.returns-clause-held
returns-clause-held c = λ d stored s settings served held fit typed. are-held-once d served stored held s fit settings typed

pub returns-clause-copied : goal.returns-clause-copied
returns-clause-copied c = copy-sound
