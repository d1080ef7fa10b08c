-- What is written of the configuration that lines make: the lines themselves, but for empty ones and remarks.
use Rattle.std.proofs.Common.{◌≡◌, ℕ, ◌≤◌, ◌<◌, ◌⊎◌, inl, inr, Bool, true, false, List, [], ◌∷◌, ◌++◌, map, append-nil, append_assoc, refl, sym, ap, subst, ◌∙◌, arith}
use Rattle.std.specs.Str.{bytes_eq}
use Rattle.std.proofs.lemmas.Bool.{or_left, or_right, false_from_ne_true, true≢false}
use Rattle.std.proofs.lemmas.List.{map-append}
use Rattle.std.proofs.lemmas.Slice.Eq.{bytes_eq-Decides}
use Rattle.sv_base.specs.declared.config.Config.{Config}
use Rattle.sv_base.specs.declared.config.LnDef.{LnDef}
use Rattle.sv_base.specs.declared.config.AttrDef.{AttrDef}
use Rattle.sv_base.specs.declared.config.SetDef.{SetDef}
use Rattle.sv_base.specs.declared.config.BlockDef.{BlockDef}
use Rattle.sv_base.specs.declared.config.CtlDef.{CtlDef}
use Rattle.sv_base.specs.declared.config.SgDef.{SgDef}
use Rattle.cfg_lines.specs.declared.line.Line.{Line}
use Rattle.cfg_lines.specs.declared.line.Line.TheVariants as lines
use Rattle.cfg_lines.specs.declared.line.Place.{Place}
use Rattle.cfg_lines.specs.declared.line.Place.TheVariants as places
use Rattle.text_words.specs.Names.{is_name}
use Rattle.cfg_lines.specs.Paths.{node_key}
use Rattle.cfg_lines.specs.Keys.{is_among}
use Rattle.cfg_lines.specs.Before.{number_of, place_of, domain_of}
use Rattle.cfg_lines.specs.Claims.{heads}
use Rattle.cfg_lines.specs.Configs.{with_line, config_of}
use Rattle.cfg_writing.specs.Written.{number, domain, objects, in_order, with_members, heading, with_domains, lines_of}
use Rattle.cfg_grammar.specs.Follows.{IsInNode, IsBetween, IsInDomain, IsInSet}
use Rattle.cfg_grammar.specs.Texts.{AreLines}
use Rattle.cfg_lines.proofs.ConfigLaws.{with_member-last}
use Rattle.cfg_writing.proofs.PlacedLaws.{Splits, split-node, split-attr, split-set, split-block, split-control, split-groups, Ordered, step-object, step-domain, step-keep, heading-same}

-- the lines from the first on, without empty ones and remarks
abbrev pub kept : List Line → List Line
kept [] = []
kept (lines.Skip ∷ before) = kept before
kept (line ∷ before) = kept before ++ line ∷ []

-- those of domains and of what is in them
abbrev pub body : List Line → List Line
body [] = []
body (lines.Skip ∷ before) = body before
body (lines.Config ∷ before) = body before
body (lines.Server vendor model revision ∷ before) = body before
body (lines.End ∷ before) = body before
body (line ∷ before) = body before ++ line ∷ []

-- a domain waits for its first logical node
abbrev pub waits : Place → Bool
waits places.InDomain = true
waits _ = false

-- a data set whose members are being read
record Open (c : Config) (n : ℕ) (d : List ℕ) (b : List Line) : Type 0 where
  first : Config
  set : SetDef
  number_then : ℕ
  waited : Bool
  then_ : List Line
  ordered : Ordered first number_then d waited then_
  is_number : set.line ≡ number_then
  later : number_then < n
  there : set.domain ≡ d
  makes : c ≡ with_line (lines.Set set) first
  now : b ≡ then_ ++ with_members (lines.Set set)

from-open : (c : Config) (n : ℕ) (d : List ℕ) (b : List Line) → Open c n d b → Ordered c n d false b
from-open c n d b o = subst (λ e. Ordered e n d false b) (sym o.makes) (subst (λ x. Ordered (with_line (lines.Set o.set) o.first) n d false x) (sym o.now)
    (step-object o.first o.number_then n d o.waited o.then_ (lines.Set o.set) o.ordered (split-set o.first o.set) o.is_number o.later o.there))

abbrev longer : SetDef → List ℕ → SetDef
longer set reference = record set { members = set.members ++ reference ∷ [] }

open-more : (c : Config) (n m : ℕ) (d : List ℕ) (b : List Line) (reference : List ℕ) → Open c n d b → n ≤ m → Open (with_line (lines.Member reference) c) m d (b ++ lines.Member reference ∷ [])
open-more c n m d b reference o le = record {
  first = o.first;
  set = longer o.set reference;
  number_then = o.number_then;
  waited = o.waited;
  then_ = o.then_;
  ordered = o.ordered;
  is_number = o.is_number;
  later = omega (arith, o.later, le);
  there = o.there;
  makes = ap (with_line (lines.Member reference)) o.makes ∙ ap (λ ss. record o.first { sets = ss }) (with_member-last o.first.sets o.set reference);
  now = ap (λ l. l ++ lines.Member reference ∷ []) o.now
      ∙ (append_assoc o.then_ (with_members (lines.Set o.set)) (lines.Member reference ∷ [])
      ∙ ap (λ l. o.then_ ++ (lines.Set (record o.set { members = [] }) ∷ l)) (sym (map-append lines.Member o.set.members (reference ∷ []))));
}

open-later : (c : Config) (n m : ℕ) (d : List ℕ) (b : List Line) → Open c n d b → n ≤ m → Open c m d b
open-later c n m d b o le = record {
  first = o.first;
  set = o.set;
  number_then = o.number_then;
  waited = o.waited;
  then_ = o.then_;
  ordered = o.ordered;
  is_number = o.is_number;
  later = omega (arith, o.later, le);
  there = o.there;
  makes = o.makes;
  now = o.now;
}

abbrev State : List Line → Type 0
State told = Ordered (config_of told) (number_of told) (domain_of told) (waits (place_of told)) (body told) × (IsInSet told → Open (config_of told) (number_of told) (domain_of told) (body told))

abbrev is_set : Place → Bool
is_set places.InSet = true
is_set places.InMembers = true
is_set _ = false

no-set : (told : List Line) (Q : Type 0) → is_set (place_of told) ≡ false → IsInSet told → Q
no-set told Q other (inl e) = absurd (true≢false (sym (ap is_set e) ∙ other))
no-set told Q other (inr e) = absurd (true≢false (sym (ap is_set e) ∙ other))

-- the domain of a line is one that was begun
abbrev Known : List Line → Type 0
Known before = (domain_of before ≡ []) ⊎ (is_among (heads before) (domain_of before) ≡ true)

known-more : (key : List ℕ) (hs : List (List ℕ)) (d : List ℕ) → (d ≡ []) ⊎ (is_among hs d ≡ true) → (d ≡ []) ⊎ (is_among (key ∷ hs) d ≡ true)
known-more key hs d (inl e) = inl e
known-more key hs d (inr e) = inr (or_right (bytes_eq d key) _ e)

domain-known : (before : List Line) → Known before
domain-known [] = inl refl
domain-known (lines.Skip ∷ before) = domain-known before
domain-known (lines.Config ∷ before) = domain-known before
domain-known (lines.Server vendor model revision ∷ before) = domain-known before
domain-known (lines.Ld name ∷ before) = inr (or_left _ _ ((bytes_eq-Decides name name).1 refl))
domain-known (lines.Ln node ∷ before) = known-more (node_key node.domain node.ln) (heads before) (domain_of before) (domain-known before)
domain-known (lines.Attr attr ∷ before) = domain-known before
domain-known (lines.Set set ∷ before) = domain-known before
domain-known (lines.Member reference ∷ before) = domain-known before
domain-known (lines.Brcb block ∷ before) = domain-known before
domain-known (lines.Ctl control ∷ before) = domain-known before
domain-known (lines.Sgcb groups ∷ before) = domain-known before
domain-known (lines.End ∷ before) = domain-known before

domain-apart : (before : List Line) (name : List ℕ) → is_name name ≡ true → is_among (heads before) name ≡ false → bytes_eq (domain_of before) name ≡ false
domain-apart before name is new = false_from_ne_true _ (λ e. by ((bytes_eq-Decides (domain_of before) name).0 e) (domain-known before))
  where
    no-name : is_name [] ≡ true → ⊥
    no-name e = cc

    by : domain_of before ≡ name → Known before → ⊥
    by same (inl none) = no-name (subst (λ d. is_name d ≡ true) (sym same ∙ none) is)
    by same (inr there) = true≢false (sym (subst (λ d. is_among (heads before) d ≡ true) same there) ∙ new)

-- places where no domain waits
between-waits : (before : List Line) → IsBetween before → waits (place_of before) ≡ false
between-waits before (inl e) = ap waits e
between-waits before (inr (inl e)) = ap waits e
between-waits before (inr (inr e)) = ap waits e

set-waits : (before : List Line) → IsInSet before → waits (place_of before) ≡ false
set-waits before (inl e) = ap waits e
set-waits before (inr e) = ap waits e

ordered-waits : (c : Config) (n : ℕ) (d : List ℕ) (w v : Bool) (b : List Line) → w ≡ v → Ordered c n d w b → Ordered c n d v b
ordered-waits c n d w v b e o = subst (λ x. Ordered c n d x b) e o

-- an object's line, in the order of the numbers
object-placed : (before : List Line) (line : Line) → State before → Splits (objects (config_of before)) (objects (with_line line (config_of before))) line → number line ≡ number_of before → domain line ≡ domain_of before
    → Ordered (with_line line (config_of before)) (number_of (line ∷ before)) (domain_of before) false (body before ++ with_members line)
object-placed before line s splits is there =
    step-object (config_of before) (number_of before) (number_of (line ∷ before)) (domain_of before) (waits (place_of before)) (body before) line s.0 splits is (omega arith) there

state : (text : List ℕ) (told : List Line) → AreLines text told → State told
state text [] are = (record { under = tt; text = refl; same = λ e. refl }, no-set [] _ refl)
state text (lines.Skip ∷ before) are =
    let s = state are.0 before are.3 in (
      step-keep (config_of before) (config_of before) (number_of before) (number_of (lines.Skip ∷ before)) (domain_of before) (waits (place_of before)) (waits (place_of before)) (body before) s.0 refl (omega arith) (λ e. e),
      λ is. open-later (config_of before) (number_of before) (number_of (lines.Skip ∷ before)) (domain_of before) (body before) (s.1 is) (omega arith),
    )
state text (lines.Config ∷ before) are =
    let s = state are.0 before are.3 in
    (step-keep (config_of before) (config_of (lines.Config ∷ before)) (number_of before) (number_of (lines.Config ∷ before)) (domain_of before) (waits (place_of before)) false (body before) s.0 refl (omega arith) (λ e. ap waits are.4.follows), no-set (lines.Config ∷ before) _ refl)
state text (lines.Server vendor model revision ∷ before) are =
    let s = state are.0 before are.3 in
    (step-keep (config_of before) (config_of (lines.Server vendor model revision ∷ before)) (number_of before) (number_of (lines.Server vendor model revision ∷ before)) (domain_of before) (waits (place_of before)) false (body before) s.0 refl (omega arith) (λ e. ap waits are.4.follows.0), no-set (lines.Server vendor model revision ∷ before) _ refl)
state text (lines.Ld name ∷ before) are =
    let s = state are.0 before are.3 in
    let f = are.4.follows in (
      step-domain (config_of before) (number_of before) (number_of (lines.Ld name ∷ before)) (domain_of before) name (body before)
          (ordered-waits (config_of before) (number_of before) (domain_of before) (waits (place_of before)) false (body before) (between-waits before f.0) s.0) (omega arith) (domain-apart before name f.2 f.3),
      no-set (lines.Ld name ∷ before) _ refl,
    )
state text (lines.Ln node ∷ before) are = (
  object-placed before (lines.Ln node) (state are.0 before are.3) (split-node (config_of before) node) (ap (λ (x : LnDef). x.line) are.4.follows.here) (ap (λ (x : LnDef). x.domain) are.4.follows.here),
  no-set (lines.Ln node ∷ before) _ refl,
)
state text (lines.Attr attr ∷ before) are = (
  object-placed before (lines.Attr attr) (state are.0 before are.3) (split-attr (config_of before) attr) (ap (λ (x : AttrDef). x.line) are.4.follows.here) (ap (λ (x : AttrDef). x.domain) are.4.follows.here),
  no-set (lines.Attr attr ∷ before) _ refl,
)
state text (lines.Set set ∷ before) are =
    let s = state are.0 before are.3 in
    let f = are.4.follows in
    let none : set.members ≡ [] = ap (λ (x : SetDef). x.members) f.here in
    let o : Open (config_of (lines.Set set ∷ before)) (number_of (lines.Set set ∷ before)) (domain_of before) (body before ++ lines.Set set ∷ []) = record {
      first = config_of before;
      set = set;
      number_then = number_of before;
      waited = waits (place_of before);
      then_ = body before;
      ordered = s.0;
      is_number = ap (λ (x : SetDef). x.line) f.here;
      later = omega arith;
      there = ap (λ (x : SetDef). x.domain) f.here;
      makes = refl;
      now = ap (λ ms. body before ++ (lines.Set (record set { members = ms }) ∷ [])) none ∙ ap (λ ms. body before ++ (lines.Set (record set { members = [] }) ∷ map lines.Member ms)) (sym none);
    } in
    (from-open (config_of (lines.Set set ∷ before)) (number_of (lines.Set set ∷ before)) (domain_of before) (body before ++ lines.Set set ∷ []) o, λ is. o)
state text (lines.Member reference ∷ before) are =
    let s = state are.0 before are.3 in
    let o : Open (config_of (lines.Member reference ∷ before)) (number_of (lines.Member reference ∷ before)) (domain_of before) (body before ++ lines.Member reference ∷ []) =
    open-more (config_of before) (number_of before) (number_of (lines.Member reference ∷ before)) (domain_of before) (body before) reference (s.1 are.4.follows.stands) (omega arith) in
    (from-open (config_of (lines.Member reference ∷ before)) (number_of (lines.Member reference ∷ before)) (domain_of before) (body before ++ lines.Member reference ∷ []) o, λ is. o)
state text (lines.Brcb block ∷ before) are = (
  object-placed before (lines.Brcb block) (state are.0 before are.3) (split-block (config_of before) block) (ap (λ (x : BlockDef). x.line) are.4.follows.here) (ap (λ (x : BlockDef). x.domain) are.4.follows.here),
  no-set (lines.Brcb block ∷ before) _ refl,
)
state text (lines.Ctl control ∷ before) are = (
  object-placed before (lines.Ctl control) (state are.0 before are.3) (split-control (config_of before) control) (ap (λ (x : CtlDef). x.line) are.4.follows.here) (ap (λ (x : CtlDef). x.domain) are.4.follows.here),
  no-set (lines.Ctl control ∷ before) _ refl,
)
state text (lines.Sgcb groups ∷ before) are = (
  object-placed before (lines.Sgcb groups) (state are.0 before are.3) (split-groups (config_of before) groups) (ap (λ (x : SgDef). x.line) are.4.follows.here) (ap (λ (x : SgDef). x.domain) are.4.follows.here),
  no-set (lines.Sgcb groups ∷ before) _ refl,
)
state text (lines.End ∷ before) are =
    let s = state are.0 before are.3 in
    (step-keep (config_of before) (config_of (lines.End ∷ before)) (number_of before) (number_of (lines.End ∷ before)) (domain_of before) (waits (place_of before)) false (body before) s.0 refl (omega arith) (λ e. between-waits before are.4.follows), no-set (lines.End ∷ before) _ refl)

-- the first two lines, and the last
abbrev Frame : Place → Config → List Line → List Line → Type 0
Frame places.Start c k b = (k ≡ []) × (b ≡ [])
Frame places.Configured c k b = (k ≡ lines.Config ∷ []) × (b ≡ [])
Frame places.Ended c k b = k ≡ lines.Config ∷ lines.Server c.vendor c.model c.revision ∷ (b ++ lines.End ∷ [])
Frame _ c k b = k ≡ lines.Config ∷ lines.Server c.vendor c.model c.revision ∷ b

abbrev Inner : Config → List Line → List Line → Type 0
Inner c k b = k ≡ lines.Config ∷ lines.Server c.vendor c.model c.revision ∷ b

frame-at : (p q : Place) (c : Config) (k b : List Line) → p ≡ q → Frame p c k b → Frame q c k b
frame-at p q c k b e f = subst (λ x. Frame x c k b) e f

frame-node : (before : List Line) (c : Config) (k b : List Line) → IsInNode before → Frame (place_of before) c k b → Inner c k b
frame-node before c k b (inl e) f = frame-at (place_of before) places.InNode c k b e f
frame-node before c k b (inr e) f = frame-at (place_of before) places.InMembers c k b e f

frame-between : (before : List Line) (c : Config) (k b : List Line) → IsBetween before → Frame (place_of before) c k b → Inner c k b
frame-between before c k b (inl e) f = frame-at (place_of before) places.Served c k b e f
frame-between before c k b (inr is) f = frame-node before c k b is f

frame-domain : (before : List Line) (c : Config) (k b : List Line) → IsInDomain before → Frame (place_of before) c k b → Inner c k b
frame-domain before c k b (inl e) f = frame-at (place_of before) places.InDomain c k b e f
frame-domain before c k b (inr is) f = frame-node before c k b is f

frame-set : (before : List Line) (c : Config) (k b : List Line) → IsInSet before → Frame (place_of before) c k b → Inner c k b
frame-set before c k b (inl e) f = frame-at (place_of before) places.InSet c k b e f
frame-set before c k b (inr e) f = frame-at (place_of before) places.InMembers c k b e f

frame : (text : List ℕ) (told : List Line) → AreLines text told → Frame (place_of told) (config_of told) (kept told) (body told)
frame text [] are = (refl, refl)
frame text (lines.Skip ∷ before) are = frame are.0 before are.3
frame text (lines.Config ∷ before) are = let f = frame-at (place_of before) places.Start (config_of before) (kept before) (body before) are.4.follows (frame are.0 before are.3) in (ap (λ l. l ++ lines.Config ∷ []) f.0, f.1)
frame text (lines.Server vendor model revision ∷ before) are = let f = frame-at (place_of before) places.Configured (config_of before) (kept before) (body before) are.4.follows.0 (frame are.0 before are.3) in
    ap (λ l. l ++ lines.Server vendor model revision ∷ []) f.0 ∙ ap (λ b. lines.Config ∷ lines.Server vendor model revision ∷ b) (sym f.1)
frame text (lines.Ld name ∷ before) are = ap (λ l. l ++ (lines.Ld name) ∷ []) (frame-between before (config_of before) (kept before) (body before) are.4.follows.0 (frame are.0 before are.3))
frame text (lines.Ln node ∷ before) are = ap (λ l. l ++ (lines.Ln node) ∷ []) (frame-domain before (config_of before) (kept before) (body before) are.4.follows.stands (frame are.0 before are.3))
frame text (lines.Attr attr ∷ before) are = ap (λ l. l ++ (lines.Attr attr) ∷ []) (frame-node before (config_of before) (kept before) (body before) are.4.follows.stands (frame are.0 before are.3))
frame text (lines.Set set ∷ before) are = ap (λ l. l ++ (lines.Set set) ∷ []) (frame-node before (config_of before) (kept before) (body before) are.4.follows.stands (frame are.0 before are.3))
frame text (lines.Member reference ∷ before) are = ap (λ l. l ++ (lines.Member reference) ∷ []) (frame-set before (config_of before) (kept before) (body before) are.4.follows.stands (frame are.0 before are.3))
frame text (lines.Brcb block ∷ before) are = ap (λ l. l ++ (lines.Brcb block) ∷ []) (frame-node before (config_of before) (kept before) (body before) are.4.follows.stands (frame are.0 before are.3))
frame text (lines.Ctl control ∷ before) are = ap (λ l. l ++ (lines.Ctl control) ∷ []) (frame-node before (config_of before) (kept before) (body before) are.4.follows.stands (frame are.0 before are.3))
frame text (lines.Sgcb groups ∷ before) are = ap (λ l. l ++ (lines.Sgcb groups) ∷ []) (frame-node before (config_of before) (kept before) (body before) are.4.follows.stands.0 (frame are.0 before are.3))
frame text (lines.End ∷ before) are = ap (λ l. l ++ lines.End ∷ []) (frame-between before (config_of before) (kept before) (body before) are.4.follows (frame are.0 before are.3))

pub lines-kept : (text : List ℕ) (told : List Line) → AreLines text told → place_of told ≡ places.Ended → lines_of (config_of told) ≡ kept told
lines-kept text told are ended =
    let c = config_of told in
    let xs = in_order (objects c) in
    let o = (state text told are).0 in
    let last = o.same (ap waits ended) in
    let whole : with_domains [] xs ≡ body told = sym (append-nil (with_domains [] xs)) ∙ (ap (λ l. with_domains [] xs ++ l) (sym (ap (λ l. heading l (domain_of told)) last ∙ heading-same (domain_of told))) ∙ o.text) in
    ap (λ l. lines.Config ∷ lines.Server c.vendor c.model c.revision ∷ (l ++ lines.End ∷ [])) whole
    ∙ sym (frame-at (place_of told) places.Ended c (kept told) (body told) ended (frame text told are))
