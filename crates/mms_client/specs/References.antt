-- References of variables.
use Rattle.std.specs.Prelude.{ℕ, ◌≤◌, ◌<◌, ◌==◌, Bool, true, List, ◌++◌, length, codes}
use Rattle.std.specs.List.{after_first, before_first, position_or_len}
use Rattle.sv_base.specs.declared.value.Value.{Value}
use Rattle.sv_base.specs.declared.value.Value.TheVariants as values
use Rattle.mms_client.specs.Requests.{Request, reading, writing}
use Rattle.mms_pdu.specs.AskingOctets.{AreVisible}

-- the code of `/`
abbrev pub is_slash : ℕ → Bool
is_slash c = c == 47

-- what stands before the first `/`, and what stands after it
abbrev pub domain_in : List ℕ → List ℕ
domain_in text = before_first is_slash text

abbrev pub item_in : List ℕ → List ℕ
item_in text = after_first is_slash text

-- `LD/item`, of visible octets
pub record IsReference (text : List ℕ) : Type 0 where
  pub parts : position_or_len is_slash text < length text
  pub visible : AreVisible text
  pub short : length text ≤ 129

-- with `$EntryID` or `$RptEna` after it, it is a reference
pub record IsBlock (text : List ℕ) : Type 0 where
  pub reference : IsReference text
  pub short : length text ≤ 121

-- the requests for the variable of a reference
abbrev pub reading_of : List ℕ → Request
reading_of text = reading (domain_in text) (item_in text)

abbrev pub writing_of : List ℕ → Value → Request
writing_of text v = writing (domain_in text) (item_in text) v

-- those by which a client goes on after an entry of a block
abbrev pub id_writing : List ℕ → List ℕ → Request
id_writing block id = writing_of (block ++ codes "$EntryID") (values.Octets id)

abbrev pub enabling : List ℕ → Request
enabling block = writing_of (block ++ codes "$RptEna") (values.Bool true)
