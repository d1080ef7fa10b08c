-- why `laws::data_is_read_back` answers as its contract says
use Rattle.sv_base.specs.Seen.{seen_of}
use Rattle.mms_data.proofs.ReadBackLaws as laws
use Rattle.mms_data.proofs.laws.data_is_read_back.Goals as goal

pub returns : goal.returns
returns c = record {
  whole = λ v known le fits of_types. laws.read_back (seen_of v) known le fits of_types;
  followed = λ v rest known le fits of_types. laws.followed (seen_of v) rest known le fits of_types;
  one_value = laws.one_value;
}
