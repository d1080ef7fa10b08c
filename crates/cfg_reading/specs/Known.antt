-- What is kept of the lines so far, so that no line is looked at again.
use Rattle.std.specs.Prelude.{◌≡◌, ◌≤◌, ℕ, List, ◌++◌, length}
use Rattle.cfg_lines.specs.Keys.{is_among}
use Rattle.cfg_lines.specs.Paths.{is_taken}
use Rattle.cfg_lines.specs.Facts.{Facts, facts_of, after}
use Rattle.cfg_lines.specs.Claims as claimed
use Rattle.cfg_lines.specs.declared.line.Line.{Line}
use Rattle.cfg_lines.specs.declared.line.Line.TheVariants as lines
use Rattle.cfg_reading.specs.declared.known_lines.Counts.{Counts}
use Rattle.cfg_reading.specs.declared.known_lines.KnownLines.{KnownLines}

abbrev pub facts_kept : KnownLines → Facts
facts_kept k = record {
  place = k.place;
  domain = k.domain;
  node = k.node;
  groups = k.groups;
  settings = k.has_settings;
  domains = k.counts.domains;
  nodes = k.counts.nodes;
  attributes = k.counts.attributes;
  sets = k.counts.sets;
  members = k.counts.members;
  blocks = k.counts.blocks;
  controls = k.counts.controls;
}

-- what is kept is that of one line more
pub record Tells (line : Line) (old new : KnownLines) : Type 0 where
  pub facts : facts_kept new ≡ after line (facts_kept old)
  pub heads : (key : List ℕ) → is_among new.heads key ≡ is_among (claimed.heads_by line ++ old.heads) key
  pub sets : (key : List ℕ) → is_among new.sets key ≡ is_among (claimed.sets_by line ++ old.sets) key
  pub names : (path : List ℕ) → is_taken new.names path ≡ is_taken (claimed.claims_by line ++ old.names) path

-- before the line itself is put
abbrev pub Noted : Line → (old new : KnownLines) → Type 0
Noted line old new = (new.lines ≡ old.lines) × Tells line old new

-- lines of which nothing is kept but where the next one stands, and how many members there are
abbrev pub IsShort : Line → Type 0
IsShort lines.Skip = Unit {0}
IsShort lines.Config = Unit {0}
IsShort (lines.Server vendor model revision) = Unit {0}
IsShort (lines.Member reference) = Unit {0}
IsShort lines.End = Unit {0}
IsShort _ = ⊥

-- no more than lines
abbrev pub AreFew : Counts → Type 0
AreFew c = (c.domains ≤ 20000) × (c.nodes ≤ 20000) × (c.attributes ≤ 20000) × (c.sets ≤ 20000) × (c.members ≤ 20000) × (c.blocks ≤ 20000) × (c.controls ≤ 20000)

pub record Known (before : List Line) (facts : Facts) (heads sets names : List (List ℕ)) : Type 0 where
  pub few : length before ≤ 20000
  pub same_facts : facts ≡ facts_of before
  pub same_heads : (key : List ℕ) → is_among heads key ≡ is_among (claimed.heads before) key
  pub same_sets : (key : List ℕ) → is_among sets key ≡ is_among (claimed.sets before) key
  pub same_names : (path : List ℕ) → is_taken names path ≡ is_taken (claimed.claims before) path
