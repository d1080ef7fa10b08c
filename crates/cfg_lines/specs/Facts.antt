-- What the lines before a line say of it, in one: what stays and what changes with one more line.
use Rattle.std.specs.Prelude.{ℕ, ◌+◌, Bool, true, false, List, [], codes, if◌then◌else◌}
use Rattle.std.specs.Str.{bytes_eq}
use Rattle.cfg_lines.specs.Before as before
use Rattle.cfg_lines.specs.declared.line.Line.{Line}
use Rattle.cfg_lines.specs.declared.line.Line.TheVariants as lines
use Rattle.cfg_lines.specs.declared.line.Place.{Place}
use Rattle.cfg_lines.specs.declared.line.Place.TheVariants as places

pub record Facts : Type 0 where
  pub place : Place
  pub domain : List ℕ
  pub node : List ℕ
  pub groups : ℕ
  pub settings : Bool
  pub domains : ℕ
  pub nodes : ℕ
  pub attributes : ℕ
  pub sets : ℕ
  pub members : ℕ
  pub blocks : ℕ
  pub controls : ℕ

abbrev pub facts_of : List Line → Facts
facts_of all = record {
  place = before.place_of all;
  domain = before.domain_of all;
  node = before.node_of all;
  groups = before.groups_of all;
  settings = before.has_settings all;
  domains = before.domains all;
  nodes = before.nodes all;
  attributes = before.attributes all;
  sets = before.sets all;
  members = before.members all;
  blocks = before.blocks all;
  controls = before.controls all;
}

-- with one more line
abbrev pub after : Line → Facts → Facts
after lines.Skip f = f
after lines.Config f = record f { place = places.Configured }
after (lines.Server vendor model revision) f = record f { place = places.Served }
after (lines.Ld name) f = record f { place = places.InDomain; domain = name; node = []; groups = 0; settings = false; domains = f.domains + 1 }
after (lines.Ln node) f = record f { place = places.InNode; node = node.ln; nodes = f.nodes + 1 }
after (lines.Attr attr) f = record f { place = places.InNode; settings = if bytes_eq attr.fc (codes "SG") then true else f.settings; attributes = f.attributes + 1 }
after (lines.Set set) f = record f { place = places.InSet; sets = f.sets + 1; members = 0 }
after (lines.Member reference) f = record f { place = places.InMembers; members = f.members + 1 }
after (lines.Brcb block) f = record f { place = places.InNode; blocks = f.blocks + 1 }
after (lines.Ctl control) f = record f { place = places.InNode; controls = f.controls + 1 }
after (lines.Sgcb groups) f = record f { place = places.InNode; groups = groups.count }
after lines.End f = record f { place = places.Ended }
