-- The first refused line of a text, and its kind.
use Rattle.std.specs.Prelude.{◌≡◌, ◌≤◌, ◌⊎◌, ◌==◌, ℕ, false, List, [], ◌∷◌, ◌++◌}
use Rattle.std.specs.List.{All}
use Rattle.cfg_lines.specs.Before.{number_of, place_of}
use Rattle.cfg_lines.specs.Claims.{sets}
use Rattle.cfg_lines.specs.Nodes.{leaves, leaf_names, closed}
use Rattle.cfg_lines.specs.Sizes.{octets_of, leaf_octets, children}
use Rattle.cfg_lines.specs.declared.line.Line.{Line}
use Rattle.cfg_lines.specs.declared.line.Line.TheVariants as lines
use Rattle.cfg_lines.specs.declared.line.Place.TheVariants as places
use Rattle.cfg_grammar.specs.Texts.{AreLines, AreFound}
use Rattle.cfg_laws.specs.Kinds as kinds
use Rattle.cfg_laws.specs.Names.{IsAmong, Reaches}
use Rattle.cfg_laws.specs.Lines.{IsRefusedLine}

abbrev pub HasNoNewline : List ℕ → Type 0
HasNoNewline text = All (λ octet. (octet == 10) ≡ false) text

-- Lines of the format stand before a line that none may be there.
pub record HasRefused (text : List ℕ) (line kind : ℕ) : Type 0 where
  pub front : List ℕ
  pub last : List ℕ
  pub rest : List ℕ
  pub before : List Line
  pub text_ : text ≡ front ++ (last ++ 10 ∷ rest)
  pub one : HasNoNewline last
  pub are : AreLines front before
  pub number : line ≡ number_of before
  pub cause : IsRefusedLine before last kind

-- All lines are of the format, and the last isn't `end`, or there are octets after it that no newline ends.
pub record EndsEarly (text : List ℕ) (line kind : ℕ) : Type 0 where
  pub front : List ℕ
  pub rest : List ℕ
  pub before : List Line
  pub text_ : text ≡ front ++ rest
  pub none : HasNoNewline rest
  pub are : AreLines front before
  pub early : (place_of before ≡ places.Ended) × (rest ≡ []) → ⊥
  pub number : line ≡ number_of before
  pub cause : kind ≡ kinds.order

-- a node that the lines make
abbrev pub IsNode : List Line → List ℕ → Type 0
IsNode all node = Reaches (leaf_names all) node ⊎ Reaches (closed all) node

-- a node that a data set may have: nothing closed is in it, and its Data has at most 500 octets
abbrev pub MayBeMember : List Line → List ℕ → Type 0
MayBeMember all node = (Reaches (closed all) node → ⊥) × (octets_of 10 (leaf_octets (leaves all)) (children (leaf_names all)) node ≤ 500)

-- what a line names among all lines isn't there, or may not stand there
abbrev pub IsLost : List Line → Line → ℕ → Type 0
IsLost all (lines.Brcb block) kind = (block.dat_set ≡ [] → ⊥) × (IsAmong (sets all) block.dat_set → ⊥) × (kind ≡ kinds.unknown)
IsLost all (lines.Member reference) kind = ((IsNode all reference → ⊥) × (kind ≡ kinds.unknown)) ⊎ (IsNode all reference × (MayBeMember all reference → ⊥) × (kind ≡ kinds.member))
IsLost all line kind = ⊥

-- The text has all its lines. What the lines before one name is found, and what this one names is not.
pub record NamesLost (text : List ℕ) (line kind : ℕ) : Type 0 where
  pub told : List Line
  pub are : AreLines text told
  pub ended : place_of told ≡ places.Ended
  pub later : List Line
  pub one : Line
  pub before : List Line
  pub split : told ≡ later ++ one ∷ before
  pub found : AreFound told before
  pub number : line ≡ number_of before
  pub cause : IsLost told one kind

-- this is the first line of the text that is refused, counted from 1, and for this kind
abbrev pub IsRefused : List ℕ → ℕ → ℕ → Type 0
IsRefused text line kind = HasRefused text line kind ⊎ (EndsEarly text line kind ⊎ NamesLost text line kind)
