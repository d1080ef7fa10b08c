-- why `laws::a_name_more` answers as its contract says
use Rattle.std.specs.Str.{bytes_eq}
use Rattle.list_laws.proofs.Places.{position-push}
use Rattle.list_laws.proofs.laws.a_name_more.Goals as goal

pub returns : goal.returns
returns c names name other = position-push (bytes_eq other) names name
