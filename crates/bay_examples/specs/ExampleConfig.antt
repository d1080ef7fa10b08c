-- The configuration of the example bay, line by line, and its variants with a control, with setting groups, and with names that
-- come back in later lines.
use Rattle.std.specs.Prelude.{ℕ, ◌+◌, Bool, true, false, pos, List, [], ◌∷◌, ◌++◌, replicate, codes}
use Rattle.sv_base.specs.Seen.{row_of}
use Rattle.sv_base.specs.declared.value.Value.{Value}
use Rattle.sv_base.specs.declared.value.Value.TheVariants as kinds
use Rattle.sv_base.specs.declared.types.TypeOf.{TypeOf}
use Rattle.sv_base.specs.declared.types.TypeOf.TheVariants as types
use Rattle.sv_base.specs.declared.config.Config.{Config}
use Rattle.sv_base.specs.declared.config.LnDef.{LnDef}
use Rattle.sv_base.specs.declared.config.AttrDef.{AttrDef}
use Rattle.sv_base.specs.declared.config.SetDef.{SetDef}
use Rattle.sv_base.specs.declared.config.BlockDef.{BlockDef}
use Rattle.bay_examples.specs.Example.{bits_of}

abbrev pub ln : ℕ → List ℕ → List ℕ → LnDef
ln line domain name = record { line = line; domain = domain; ln = name }

-- an attribute with the flags d and q
abbrev pub attr : ℕ → List ℕ → List ℕ → List ℕ → List ℕ → TypeOf → Bool → Bool → List Value → AttrDef
attr line domain ln fc path kind d q values = record { line = line; domain = domain; ln = ln; fc = fc; path = path; kind = kind; dchg = d; qchg = q; dupd = false; values = row_of values }

abbrev pub bay : List ℕ
bay = codes "BAY1"

-- value, quality and time of a data object, from a line on
abbrev pub status : ℕ → List ℕ → List ℕ → TypeOf → Value → List AttrDef
status line ln name kind v = attr line bay ln (codes "ST") (name ++ codes "$stVal") kind true false (v ∷ [])
    ∷ attr (line + 1) bay ln (codes "ST") (name ++ codes "$q") (types.Bits 13) false true (kinds.Bits (replicate 13 false) ∷ [])
    ∷ attr (line + 2) bay ln (codes "ST") (name ++ codes "$t") types.Time false false (kinds.Time (record { secs = 0; frac = 0; quality = 0 }) ∷ []) ∷ []

abbrev pub events : SetDef
events = record { line = 5; domain = bay; ln = codes "LLN0"; name = codes "Events"; members = codes "BAY1/XCBR1$ST$Pos" ∷ codes "BAY1/GGIO1$ST$Ind1" ∷ codes "BAY1/MMXU1$MX$TotW$mag$i" ∷ [] }

abbrev pub block : BlockDef
block = record { line = 9; domain = bay; ln = codes "LLN0"; name = codes "brcbEv01"; rpt_id = codes "Ev1"; dat_set = codes "BAY1/LLN0$Events"; conf_rev = 1; opt_flds = bits_of (codes "0111001110"); buf_tm = 0; trg_ops = bits_of (codes "011001"); intg_pd = 0; capacity = 200 }

abbrev pub example_config : Config
example_config = record {
  vendor = codes "Demo";
  model = codes "Bay";
  revision = codes "1";
  nodes = ln 4 bay (codes "LLN0") ∷ ln 10 bay (codes "XCBR1") ∷ ln 14 bay (codes "GGIO1") ∷ ln 18 bay (codes "MMXU1") ∷ [];
  attrs = status 11 (codes "XCBR1") (codes "Pos") (types.Bits 2) (kinds.Bits (false ∷ true ∷ [])) ++ (status 15 (codes "GGIO1") (codes "Ind1") types.Bool (kinds.Bool false)
      ++ attr 19 bay (codes "MMXU1") (codes "MX") (codes "TotW$mag$i") (types.Int 32) true false (kinds.Int (pos 0) ∷ []) ∷ []);
  sets = events ∷ [];
  blocks = block ∷ [];
  controls = [];
  groups = [];
}

-- with the control CSWI1.Pos of ctlModel 4
abbrev pub control_config : Config
control_config = record example_config {
  nodes = ln 4 bay (codes "LLN0") ∷ ln 10 bay (codes "XCBR1") ∷ ln 14 bay (codes "GGIO1") ∷ ln 18 bay (codes "MMXU1") ∷ ln 20 bay (codes "CSWI1") ∷ [];
  controls = record { line = 21; domain = bay; ln = codes "CSWI1"; path = codes "Pos"; model = 4; timeout = 5000; class = 0; kind = types.Bool } ∷ [];
}

-- two domains, the second with two setting groups; in SetA a name comes back after another, and the functional constraint CF
-- of the control comes before an attribute of it
abbrev pub varied_config : Config
varied_config = record {
  vendor = codes "Demo";
  model = codes "Bay";
  revision = codes "1";
  nodes = ln 4 bay (codes "GGIO1") ∷ ln 8 (codes "SET1") (codes "LLN0") ∷ ln 12 (codes "SET1") (codes "PTOC1") ∷ [];
  attrs = attr 5 bay (codes "GGIO1") (codes "ST") (codes "B$v") (types.Text 255) true false (kinds.Text [] ∷ [])
      ∷ attr 6 bay (codes "GGIO1") (codes "ST") (codes "A$v") (types.Uint 16) false false (kinds.Uint 7 ∷ [])
      ∷ attr 7 bay (codes "GGIO1") (codes "ST") (codes "B$u") (types.Text 255) false false (kinds.Text [] ∷ [])
      ∷ attr 10 (codes "SET1") (codes "LLN0") (codes "SP") (codes "NamPlt") (types.Octets 255) false false (kinds.Octets [] ∷ [])
      ∷ attr 13 (codes "SET1") (codes "PTOC1") (codes "SG") (codes "StrVal$setMag") (types.Int 32) false false (kinds.Int (pos 10) ∷ kinds.Int (pos 20) ∷ [])
      ∷ attr 15 (codes "SET1") (codes "PTOC1") (codes "CF") (codes "Op$dbg") types.Bool false false (kinds.Bool true ∷ []) ∷ [];
  sets = [];
  blocks = [];
  controls = record { line = 14; domain = codes "SET1"; ln = codes "PTOC1"; path = codes "Op"; model = 2; timeout = 100; class = 1; kind = types.Int 32 } ∷ [];
  groups = record { line = 9; domain = codes "SET1"; count = 2; active = 1 } ∷ [];
}
