-- Which elements spell which values (ISO 9506-2, Data; the contents are those of ITU-T X.690).
use Rattle.std.specs.Prelude.{◌≡◌, ◌≢◌, ℕ, zero, suc, ◌⊎◌, ◌++◌, length, take, drop, slice_index, ◌<◌, ◌≤◌, Bool, true, false, ◌==◌, ◌||◌, List, [], ◌∷◌, nat_lt, ◌/◌, if◌then◌else◌}
use Rattle.ber_grammar.specs.declared.fault.BerFault.{BerFault}
use Rattle.ber_grammar.specs.Octets.{big_endian}
use Rattle.ber_grammar.specs.Element.{Element, Spells, Begins, IsRow, IsRefused}
use Rattle.ber_grammar.specs.Content.{IsBoolean, IsInt, IsUint, IsText, IsBits}
use Rattle.sv_base.specs.Tree.{Plain, Seen, Row, plain, structure, none, more, truth, int, uint, bits, time, stamp, text, octets, other}
use Rattle.sv_base.specs.Depth.{depth_seen, depth_row}
use Rattle.mms_data.specs.declared.fault.DataFault.{DataFault}
use Rattle.mms_data.specs.declared.fault.DataFault.TheVariants.{Tag, Length, Depth}
use Rattle.mms_data.specs.declared.tags.TheConstants.{BINARY_TIME, BIT_STRING, BOOLEAN, INTEGER, OCTET_STRING, STRUCTURE, UNSIGNED, UTC_TIME, VISIBLE_STRING}

-- the first octet of a tag
abbrev pub first_octet : ℕ → ℕ
first_octet tag = if nat_lt tag 256 then tag else if nat_lt tag 65536 then tag / 256 else tag / 65536

-- X.690, 8.1.2.2: the two highest bits are the class, 2 is context-specific
abbrev pub is_context : ℕ → Bool
is_context tag = first_octet tag / 64 == 2

-- a tag of a kind of value
abbrev pub is_kind : ℕ → Bool
is_kind tag = tag == BOOLEAN || tag == BIT_STRING || tag == INTEGER || tag == UNSIGNED || tag == OCTET_STRING || tag == VISIBLE_STRING || tag == BINARY_TIME || tag == UTC_TIME || tag == STRUCTURE

-- ISO 9506-2, TimeOfDay: milliseconds of the day in four octets, days since the beginning of 1984 in two
abbrev pub IsStamp : List ℕ → ℕ → ℕ → Type 0
IsStamp content ms days = (length content ≡ 6) × (ms ≡ big_endian (take 4 content)) × (days ≡ big_endian (drop 4 content))

-- ISO 9506-2, UtcTime: seconds since the beginning of 1970 in four octets, units of 2^-24 seconds in three, the quality
-- in one
abbrev pub IsTime : List ℕ → ℕ → ℕ → ℕ → Type 0
IsTime content secs frac quality = (length content ≡ 8) × (secs ≡ big_endian (take 4 content)) × (frac ≡ big_endian (take 3 (drop 4 content))) × (quality ≡ slice_index content 7)

-- the choice of Data by its tag, and what the content spells
abbrev pub IsPlain : Plain → Element → Type 0
IsPlain (truth b) e = (e.tag ≡ BOOLEAN) × IsBoolean e.content b
IsPlain (bits bs) e = (e.tag ≡ BIT_STRING) × IsBits e.content bs
IsPlain (int z) e = (e.tag ≡ INTEGER) × IsInt e.content z
IsPlain (uint n) e = (e.tag ≡ UNSIGNED) × IsUint e.content n
IsPlain (octets o) e = (e.tag ≡ OCTET_STRING) × (o ≡ e.content)
IsPlain (text t) e = (e.tag ≡ VISIBLE_STRING) × IsText e.content t
IsPlain (stamp ms days) e = (e.tag ≡ BINARY_TIME) × IsStamp e.content ms days
IsPlain (time secs frac quality) e = (e.tag ≡ UTC_TIME) × IsTime e.content secs frac quality
-- any other element of the class
IsPlain other e = (is_context e.tag ≡ true) × (is_kind e.tag ≡ false)

-- a structure is a row of elements that are its parts
abbrev mutual
  pub IsData : Seen → Element → Type 0
  IsData (plain p) e = IsPlain p e
  IsData (structure r) e = (e.tag ≡ STRUCTURE) × (es : List Element) × IsRow e.content es × AreData r es

  pub AreData : Row → List Element → Type 0
  AreData none [] = Unit {0}
  AreData none (e ∷ es) = ⊥
  AreData (more s r) [] = ⊥
  AreData (more s r) (e ∷ es) = IsData s e × AreData r es

-- the element is a value, at most so deep
abbrev pub IsWithin : ℕ → Element → Seen → Type 0
IsWithin n e s = IsData s e × (depth_seen s ≤ n)

-- After parts that are values the next is no whole element, or is refused itself.
abbrev pub IsRefusedRow : (Element → DataFault → Type 0) → ℕ → List ℕ → DataFault → Type 0
IsRefusedRow IsRefusedPart n content f = (es : List Element) × (r : Row) × (front rest : List ℕ) × IsRow front es × AreData r es × (depth_row r ≤ n) × (content ≡ front ++ rest) × (0 < length rest)
    × (((f ≡ Length) × (g : BerFault) × IsRefused rest g) ⊎ ((e : Element) × (after : List ℕ) × Begins rest e after × IsRefusedPart e f))

-- How an element of at most n levels is refused: its tag first, then its depth, then its content from the left.
abbrev pub IsRefusedData : ℕ → Element → DataFault → Type 0
IsRefusedData zero e f = ((is_context e.tag ≡ false) × (f ≡ Tag)) ⊎ ((is_context e.tag ≡ true) × (f ≡ Depth))
IsRefusedData (suc n) e f = ((is_context e.tag ≡ false) × (f ≡ Tag)) ⊎ ((is_context e.tag ≡ true)
    × (((e.tag ≢ STRUCTURE) × (f ≡ Length) × ((s : Seen) → ¬ IsData s e)) ⊎ ((e.tag ≡ STRUCTURE) × IsRefusedRow (IsRefusedData n) n e.content f)))

-- the octets are one element that is a value, at most ten deep
abbrev pub IsSpelled : List ℕ → Seen → Type 0
IsSpelled input s = (e : Element) × Spells input e × IsWithin 10 e s

-- The octets are no element, or one that is refused.
abbrev pub IsDataRefused : List ℕ → DataFault → Type 0
IsDataRefused input f = ((f ≡ Tag) × ((e : Element) → ¬ Spells input e)) ⊎ ((e : Element) × Spells input e × IsRefusedData 10 e f)
