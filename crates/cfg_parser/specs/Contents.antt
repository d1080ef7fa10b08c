-- What a line says, word by word, with the first word that is refused.
use Rattle.std.specs.Prelude.{ℕ, Bool, List, [], codes, Option, Some, None, Result, Ok, Err, if◌then◌else◌, unwrap_or}
use Rattle.std.specs.List.{list_any}
use Rattle.std.specs.Str.{bytes_eq}
use Rattle.sv_base.specs.Seen.{row_of}
use Rattle.sv_base.specs.declared.value.Value.{Value}
use Rattle.sv_base.specs.declared.types.TypeOf.{TypeOf}
use Rattle.sv_base.specs.declared.types.TypeOf.TheVariants as types
use Rattle.sv_base.specs.declared.config.AttrDef.{AttrDef}
use Rattle.cfg_parser.specs.declared.fault.Kind.{Kind}
use Rattle.cfg_parser.specs.declared.fault.Kind.TheVariants as kinds
use Rattle.text_words.specs.declared.types.Flags.{Flags}
use Rattle.cfg_lines.specs.declared.line.Line.{Line}
use Rattle.cfg_lines.specs.declared.line.Line.TheVariants as lines
use Rattle.cfg_parser.specs.Reader.{◌>>=◌, given}
use Rattle.text_words.specs.Names.{is_name, is_path, is_member, is_fc}
use Rattle.text_words.specs.Numbers.{number_within}
use Rattle.text_words.specs.Types.{type_at, flags_at}
use Rattle.text_words.specs.Values.{text_at, bits_at, values_at}
use Rattle.cfg_lines.specs.Keys.{is_among}
use Rattle.cfg_lines.specs.Paths.{node_key, item_key, is_taken}
use Rattle.cfg_lines.specs.Before.{number_of, domain_of, node_of}
use Rattle.cfg_lines.specs.Claims.{heads, sets, set_key, claims, control_keys, group_key}

abbrev pub config_at : List ℕ → Result Line Kind
config_at version = given kinds.Number (number_within 1 1 version) >>= λ n. Ok lines.Config

unfoldable pub domain_at : List Line → List ℕ → Result Line Kind
domain_at before name =
    if is_name name then (if is_among (heads before) name then Err kinds.Duplicate else Ok (lines.Ld name))
    else Err kinds.Name

unfoldable pub node_at : List Line → List ℕ → Result Line Kind
node_at before name =
    if is_name name then (if is_among (heads before) (node_key (domain_of before) name) then Err kinds.Duplicate
    else Ok (lines.Ln (record { line = number_of before; domain = domain_of before; ln = name })))
    else Err kinds.Name

unfoldable pub set_at : List Line → List ℕ → Result Line Kind
set_at before name =
    if is_name name then (if is_among (sets before) (set_key (domain_of before) (node_of before) name) then Err kinds.Duplicate
    else Ok (lines.Set (record { line = number_of before; domain = domain_of before; ln = node_of before; name = name; members = [] })))
    else Err kinds.Name

abbrev pub member_at : List ℕ → Result Line Kind
member_at reference = if is_member reference then Ok (lines.Member reference) else Err kinds.Name

abbrev pub attr_of : List Line → List ℕ → List ℕ → TypeOf → Flags → List Value → AttrDef
attr_of before fc path kind flags values = record {
  line = number_of before;
  domain = domain_of before;
  ln = node_of before;
  fc = fc;
  path = path;
  kind = kind;
  dchg = flags.dchg;
  qchg = flags.qchg;
  dupd = flags.dupd;
  values = row_of values;
}

unfoldable pub typed_at : List Line → List ℕ → List ℕ → List ℕ → List ℕ → List (List ℕ) → Result Line Kind
typed_at before fc path kind flags values = do
  t ← given kinds.TypeName (type_at kind)
  f ← given kinds.Flags (flags_at flags)
  vs ← given kinds.Value (values_at t values)
  Ok (lines.Attr (attr_of before fc path t f vs))

unfoldable pub attribute_at : List Line → List ℕ → List ℕ → List ℕ → List ℕ → List (List ℕ) → Result Line Kind
attribute_at before fc path kind flags values =
    if is_fc fc then (if is_path path then (if is_taken (claims before) (item_key (domain_of before) (node_of before) fc path) then Err kinds.Duplicate
    else typed_at before fc path kind flags values)
    else Err kinds.Name)
    else Err kinds.Name

-- RptID and DatSet
abbrev pub block_texts_at : List ℕ → List ℕ → Result (List ℕ × List ℕ) Kind
block_texts_at rpt_id dat_set = do
  i ← given kinds.Value (text_at 129 rpt_id)
  d ← given kinds.Value (text_at 1000 dat_set)
  Ok (i, d)

-- ConfRev, OptFlds and BufTm
abbrev pub block_options_at : List ℕ → List ℕ → List ℕ → Result (ℕ × List Bool × ℕ) Kind
block_options_at conf_rev opt_flds buf_tm = do
  r ← given kinds.Number (number_within 1 4294967295 conf_rev)
  o ← given kinds.Value (bits_at 10 opt_flds)
  b ← given kinds.Number (number_within 0 4294967295 buf_tm)
  Ok (r, o, b)

-- TrgOps, IntgPd and the capacity
abbrev pub block_triggers_at : List ℕ → List ℕ → List ℕ → Result (List Bool × ℕ × ℕ) Kind
block_triggers_at trg_ops intg_pd capacity = do
  t ← given kinds.Value (bits_at 6 trg_ops)
  p ← given kinds.Number (number_within 0 4294967295 intg_pd)
  c ← given kinds.Number (number_within 1 1048576 capacity)
  Ok (t, p, c)

-- the numbers and values of a report control block, after its name
unfoldable pub block_fields_at : List Line → (name rpt_id dat_set conf_rev opt_flds buf_tm trg_ops intg_pd capacity : List ℕ) → Result Line Kind
block_fields_at before name rpt_id dat_set conf_rev opt_flds buf_tm trg_ops intg_pd capacity = do
  ids ← block_texts_at rpt_id dat_set
  options ← block_options_at conf_rev opt_flds buf_tm
  triggers ← block_triggers_at trg_ops intg_pd capacity
  Ok (lines.Brcb (record {
    line = number_of before;
    domain = domain_of before;
    ln = node_of before;
    name = name;
    rpt_id = ids.0;
    dat_set = ids.1;
    conf_rev = options.0;
    opt_flds = options.1;
    buf_tm = options.2;
    trg_ops = triggers.0;
    intg_pd = triggers.1;
    capacity = triggers.2;
  }))

unfoldable pub block_at : List Line → (name rpt_id dat_set conf_rev opt_flds buf_tm trg_ops intg_pd capacity : List ℕ) → Result Line Kind
block_at before name rpt_id dat_set conf_rev opt_flds buf_tm trg_ops intg_pd capacity =
    if is_name name then (if is_taken (claims before) (item_key (domain_of before) (node_of before) (codes "BR") name) then Err kinds.Duplicate
    else block_fields_at before name rpt_id dat_set conf_rev opt_flds buf_tm trg_ops intg_pd capacity)
    else Err kinds.Name

abbrev pub control_type_at : List ℕ → Option TypeOf
control_type_at word = if bytes_eq word (codes "bool") then Some types.Bool else if bytes_eq word (codes "int32") then Some (types.Int 32) else None

unfoldable pub control_fields_at : List Line → List ℕ → List ℕ → List ℕ → List ℕ → List ℕ → Result Line Kind
control_fields_at before path model timeout class kind = do
  m ← given kinds.Number (number_within 0 4 model)
  t ← given kinds.Number (number_within 1 4294967295 timeout)
  c ← given kinds.Number (number_within 0 1 class)
  k ← given kinds.TypeName (control_type_at kind)
  Ok (lines.Ctl (record {
    line = number_of before;
    domain = domain_of before;
    ln = node_of before;
    path = path;
    model = m;
    timeout = t;
    class = c;
    kind = k;
  }))

-- the number of the model, and 0 where it is none
abbrev pub model_of : List ℕ → ℕ
model_of model = unwrap_or (number_within 0 4 model) 0

unfoldable pub control_at : List Line → List ℕ → List ℕ → List ℕ → List ℕ → List ℕ → Result Line Kind
control_at before path model timeout class kind =
    if is_path path then (if list_any (λ key. is_taken (claims before) key) (control_keys (domain_of before) (node_of before) path (model_of model)) then Err kinds.Duplicate
    else control_fields_at before path model timeout class kind)
    else Err kinds.Name

unfoldable pub group_fields_at : List Line → List ℕ → List ℕ → Result Line Kind
group_fields_at before count active = do
  c ← given kinds.Number (number_within 1 16 count)
  a ← given kinds.Number (number_within 1 c active)
  Ok (lines.Sgcb (record { line = number_of before; domain = domain_of before; count = c; active = a }))

unfoldable pub groups_at : List Line → List ℕ → List ℕ → Result Line Kind
groups_at before count active = if is_taken (claims before) (group_key (domain_of before) (codes "LLN0")) then Err kinds.Duplicate else group_fields_at before count active
