-- Members that are read back one after another.
use Rattle.std.proofs.Common.{◌≡◌, ◌<◌, ◌≤◌, ◌⊎◌, ℕ, ◌+◌, ◌-◌, ◌*◌, ◌/◌, ◌%◌, Bool, true, false, List, [], ◌∷◌, ◌++◌, length, length-append, take, drop, refl, ap, ap₂, sym, subst, ◌∙◌, inl, inr, arith, append-nil, append_assoc, Option, Some, None}
use Rattle.std.specs.Prelude.{◌==◌, slice_get}
use Rattle.std.specs.Option.{option_map, option_map_or}
use Rattle.std.proofs.lemmas.Bool.{eq-eqb, ne_eqb}
use Rattle.std.proofs.lemmas.Option.{slice_get-map}
use Rattle.std.proofs.lemmas.List.{map-append}
use Rattle.std.proofs.lemmas.List.Elements.{All-tail}
use Rattle.std.proofs.Math.Seq.{take-append_seam, drop-append_seam}
use Rattle.std.specs.List.{flat_map}
use Rattle.list_laws.proofs.Places.{all-at}
use Rattle.sv_base.specs.declared.config.Config.{Config}
use Rattle.bay_model.specs.declared.report.Member.{Member}
use Rattle.bay_model.specs.declared.report.Reasons.{Reasons}
use Rattle.bay_model.specs.declared.tables.MemberShape.{MemberShape}
use Rattle.bay_model.specs.Model.{Model}
use Rattle.bay_model.specs.Named.{configured_model}
use Rattle.bay_model.specs.Notes.{Kept}
use Rattle.bay_model.specs.Reports.{member_of, reference_at, no_reference}
use Rattle.bay_model.specs.Retained.{weight_of, kept_octets_of}
use Rattle.set_view.specs.Shapes.{node_numbers}
use Rattle.report_block.specs.EntryOctets.{weights}
use Rattle.block_reports.specs.Again.{IsOneElement, AreKept, reasons_in, reference_by, reported}
use Rattle.block_reports.specs.Blanks.{Row, IsShortSet, AreFew}
use Rattle.report_block.specs.Standing.{IsMemberKept, AreKeptMembers}

-- n members are read, and the octets of the others are left
pub record Halfway (c : Config) (shapes : List MemberShape) (ks : List Kept) (items : List Member) (rest : List ℕ) : Type 0 where
  pub read : List Kept
  pub unread : List Kept
  pub parts : ks ≡ read ++ unread
  pub made : items ≡ reported c shapes read
  pub left : AreKept rest unread

-- ---- one member

weight_is : (b : Bool) (n : ℕ) → (weight_of b n ≡ 0) ⊎ (weight_of b n ≡ n)
weight_is true n = inr refl
weight_is false n = inl refl

weight_within : (b : Bool) (n : ℕ) → weight_of b n ≤ n
weight_within true n = omega arith
weight_within false n = omega arith

-- each bit of a sum of weights is that of its own reason
dchg_back : (a b c d e : Bool) → ((weight_of a 64 + weight_of b 32 + weight_of c 16 + weight_of d 8 + weight_of e 4) / 64 % 2 == 1) ≡ a
dchg_back true b c d e = eq-eqb _ 1 (omega (arith, weight_within b 32, weight_within c 16, weight_within d 8, weight_within e 4))
dchg_back false b c d e = ne_eqb _ 1 (λ h. omega (arith, h, weight_within b 32, weight_within c 16, weight_within d 8, weight_within e 4))

qchg_back : (a b c d e : Bool) → ((weight_of a 64 + weight_of b 32 + weight_of c 16 + weight_of d 8 + weight_of e 4) / 32 % 2 == 1) ≡ b
qchg_back a true c d e = eq-eqb _ 1 (omega (arith, weight_is a 64, weight_within c 16, weight_within d 8, weight_within e 4))
qchg_back a false c d e = ne_eqb _ 1 (λ h. omega (arith, h, weight_is a 64, weight_within c 16, weight_within d 8, weight_within e 4))

dupd_back : (a b c d e : Bool) → ((weight_of a 64 + weight_of b 32 + weight_of c 16 + weight_of d 8 + weight_of e 4) / 16 % 2 == 1) ≡ c
dupd_back a b true d e = eq-eqb _ 1 (omega (arith, weight_is a 64, weight_is b 32, weight_within d 8, weight_within e 4))
dupd_back a b false d e = ne_eqb _ 1 (λ h. omega (arith, h, weight_is a 64, weight_is b 32, weight_within d 8, weight_within e 4))

intg_back : (a b c d e : Bool) → ((weight_of a 64 + weight_of b 32 + weight_of c 16 + weight_of d 8 + weight_of e 4) / 8 % 2 == 1) ≡ d
intg_back a b c true e = eq-eqb _ 1 (omega (arith, weight_is a 64, weight_is b 32, weight_is c 16, weight_within e 4))
intg_back a b c false e = ne_eqb _ 1 (λ h. omega (arith, h, weight_is a 64, weight_is b 32, weight_is c 16, weight_within e 4))

gi_back : (a b c d e : Bool) → ((weight_of a 64 + weight_of b 32 + weight_of c 16 + weight_of d 8 + weight_of e 4) / 4 % 2 == 1) ≡ e
gi_back a b c d true = eq-eqb _ 1 (omega (arith, weight_is a 64, weight_is b 32, weight_is c 16, weight_is d 8))
gi_back a b c d false = ne_eqb _ 1 (λ h. omega (arith, h, weight_is a 64, weight_is b 32, weight_is c 16, weight_is d 8))

abbrev reasons_by : Bool → Bool → Bool → Bool → Bool → Reasons
reasons_by a b c d e = record { dchg = a; qchg = b; dupd = c; intg = d; gi = e }

all_bits : (a b c d e : Bool) → reasons_in (weights (reasons_by a b c d e)) ≡ reasons_by a b c d e
all_bits a b c d e = rw (dchg_back a b c d e, qchg_back a b c d e, dupd_back a b c d e, intg_back a b c d e, gi_back a b c d e) refl

pub reasons_back : (r : Reasons) → reasons_in (weights r) ≡ r
reasons_back r = all_bits r.dchg r.qchg r.dupd r.intg r.gi

cut_back : (whole octets rest : List ℕ) → whole ≡ octets ++ rest → (take (length octets) whole ≡ octets) × (drop (length octets) whole ≡ rest)
cut_back whole octets rest is = (ap (take (length octets)) is ∙ take-append_seam octets rest, ap (drop (length octets)) is ∙ drop-append_seam octets rest)

abbrev kept_by : ℕ → Reasons → List ℕ → Kept
kept_by number reasons octets = record { number = number; reasons = reasons; octets = octets }

abbrev front_by : Kept → List ℕ → Kept × List ℕ
front_by k rest = (k, rest)

same_front : (n m : ℕ) (r s : Reasons) (o p rest after : List ℕ) → n ≡ m → r ≡ s → o ≡ p → rest ≡ after → front_by (kept_by n r o) rest ≡ front_by (kept_by m s p) after
same_front n m r s o p rest after a b c d = rw (a, b, c, d) refl

-- what is cut off at the end of the Data is the member
pub member_back : (k : Kept) (whole part rest after : List ℕ) (len n : ℕ) (r : Reasons) → len ≡ length k.octets → n ≡ k.number → r ≡ k.reasons → whole ≡ k.octets ++ after
    → part ≡ take len whole → rest ≡ drop len whole → front_by (kept_by n r part) rest ≡ front_by k after
member_back k whole part rest after len n r count number reasons is first second =
    let cut = cut_back whole k.octets after is in
    same_front n k.number r k.reasons part k.octets rest after number reasons
    (first ∙ (ap (λ (n : ℕ). take n whole) count ∙ cut.0)) (second ∙ (ap (λ (n : ℕ). drop n whole) count ∙ cut.1))

-- ---- all members

-- what a reader of one member gives, wherever one stands in front
abbrev pub ReadsFront : List ℕ → Option (Kept × List ℕ) → Type 0
ReadsFront octets read = (k : Kept) (rest : List ℕ) → IsOneElement k.octets → octets ≡ kept_octets_of k ++ rest → read ≡ Some (front_by k rest)

nothing_left : (rest : List ℕ) → AreKept rest [] → length rest ≡ 0
nothing_left rest are = ap length (sym are.whole)

-- the first of those that are left
front_left : (rest : List ℕ) (k : Kept) (ks : List Kept) (read : Option (Kept × List ℕ)) → AreKept rest (k ∷ ks) → ReadsFront rest read → read ≡ Some (front_by k (flat_map kept_octets_of ks))
front_left rest k ks read are reads = reads k (flat_map kept_octets_of ks) (are.elements 0 k (omega arith)) (sym are.whole)

some_front : (f k : Kept) (after rest : List ℕ) → Some (front_by f after) ≡ Some (front_by k rest) → (f ≡ k) × (after ≡ rest)
some_front f k after rest is = let same : front_by f after ≡ front_by k rest = cc is in (ap (λ (x : Kept × List ℕ). x.0) same, ap (λ (x : Kept × List ℕ). x.1) same)

pub one_more : (c : Config) (shapes : List MemberShape) (ks : List Kept) (items grown : List Member) (rest after : List ℕ) (f : Kept) (m : Member)
    → Halfway c shapes ks items rest → ReadsFront rest (Some (front_by f after)) → length after < length rest
    → m ≡ member_of (configured_model c) (node_numbers shapes) f → grown ≡ items ++ m ∷ [] → Halfway c shapes ks grown after
one_more c shapes ks items grown rest after f m h reads shorter is pushed = from h.read h.unread h.parts h.made h.left
  where
    from : (read unread : List Kept) → ks ≡ read ++ unread → items ≡ reported c shapes read → AreKept rest unread → Halfway c shapes ks grown after
    from read [] parts made left = absurd (omega (arith, nothing_left rest left, shorter))
    from read (k ∷ unread) parts made left =
        let same = some_front f k after (flat_map kept_octets_of unread) (front_left rest k unread (Some (front_by f after)) left reads) in
        record {
          read = read ++ k ∷ [];
          unread = unread;
          parts = parts ∙ sym (append_assoc read (k ∷ []) unread);
          made = pushed ∙ (ap₂ (λ (l : List Member) (m : Member). l ++ m ∷ []) made (is ∙ ap (member_of (configured_model c) (node_numbers shapes)) same.0) ∙ sym (map-append (member_of (configured_model c) (node_numbers shapes)) read (k ∷ [])));
          left = record { whole = sym same.1; elements = All-tail (λ (k : Kept). IsOneElement k.octets) k unread left.elements };
        }

pub all_read : (c : Config) (shapes : List MemberShape) (ks : List Kept) (items : List Member) (rest : List ℕ) (read : Option (Kept × List ℕ))
    → Halfway c shapes ks items rest → ReadsFront rest read → read ≡ None → items ≡ reported c shapes ks
all_read c shapes ks items rest read h reads none = from h.read h.unread h.parts h.made h.left
  where
    from : (read unread : List Kept) → ks ≡ read ++ unread → items ≡ reported c shapes read → AreKept rest unread → items ≡ reported c shapes ks
    from done [] parts made left = made ∙ ap (reported c shapes) (sym (append-nil done) ∙ sym parts)
    from done (k ∷ unread) parts made left = cc (none, front_left rest k unread read left reads)

-- ---- members that are put into memory that is there

-- that many are read, and there is capacity for the others
pub record Filling (c : Config) (shapes : List MemberShape) (ks : List Kept) (row : Row) (rest : List ℕ) : Type 0 where
  pub half : Halfway c shapes ks row.items rest
  pub sound : AreKeptMembers half.unread
  pub few : length half.unread ≤ row.left

pub fill_first : (c : Config) (shapes : List MemberShape) (ks : List Kept) (row : Row) (octets : List ℕ) → row.items ≡ [] → AreFew row.left octets ks → Filling c shapes ks row octets
fill_first c shapes ks row octets empty h = record {
  half = record { read = []; unread = ks; parts = refl; made = empty; left = h.kept };
  sound = h.sound;
  few = h.few;
}

pub fill_one : (c : Config) (shapes : List MemberShape) (ks : List Kept) (row new : Row) (rest after : List ℕ) (f : Kept) (m : Member)
    → Filling c shapes ks row rest → ReadsFront rest (Some (front_by f after)) → length after < length rest → m ≡ member_of (configured_model c) (node_numbers shapes) f
    → (0 < row.left → length f.octets ≤ 500 → new ≡ record { items = row.items ++ m ∷ []; left = row.left - 1 }) → Filling c shapes ks new after
fill_one c shapes ks row new rest after f m h reads shorter is put = from h.half.read h.half.unread h.half.parts h.half.made h.half.left h.sound h.few
  where
    from : (read unread : List Kept) → ks ≡ read ++ unread → row.items ≡ reported c shapes read → AreKept rest unread → AreKeptMembers unread → length unread ≤ row.left → Filling c shapes ks new after
    from read [] parts made left sound few = absurd (omega (arith, nothing_left rest left, shorter))
    from read (k ∷ unread) parts made left sound few =
        let same = some_front f k after (flat_map kept_octets_of unread) (front_left rest k unread (Some (front_by f after)) left reads) in
        let first : IsMemberKept k = sound 0 k (omega arith) in
        let short : length f.octets ≤ 500 = subst (λ (x : Kept). length x.octets ≤ 500) (sym same.0) first.short.1 in
        let pushed = put (omega (arith, few)) short in
        record {
          half = record {
            read = read ++ k ∷ [];
            unread = unread;
            parts = parts ∙ sym (append_assoc read (k ∷ []) unread);
            made = ap (λ (r : Row). r.items) pushed ∙ (ap₂ (λ (l : List Member) (m : Member). l ++ m ∷ []) made (is ∙ ap (member_of (configured_model c) (node_numbers shapes)) same.0) ∙ sym (map-append (member_of (configured_model c) (node_numbers shapes)) read (k ∷ [])));
            left = record { whole = sym same.1; elements = All-tail (λ (k : Kept). IsOneElement k.octets) k unread left.elements };
          };
          sound = All-tail IsMemberKept k unread sound;
          few = omega (arith, few, ap (λ (r : Row). r.left) pushed);
        }

-- ---- how long octets are

-- of n members with Data of at most 500 octets
kept_within : (ks : List Kept) → AreKeptMembers ks → length (flat_map kept_octets_of ks) ≤ 504 * length ks
kept_within [] sound = omega arith
kept_within (k ∷ ks) sound =
    let first : IsMemberKept k = sound 0 k (omega arith) in
    let rest = kept_within ks (All-tail IsMemberKept k ks sound) in
    let whole = length-append (kept_octets_of k) (flat_map kept_octets_of ks) in
    omega (arith, first.short.1, rest, whole)

pub octets_within : (most : ℕ) (octets : List ℕ) (ks : List Kept) → AreFew most octets ks → length octets ≤ 504 * most
octets_within most octets ks h = omega (arith, kept_within ks h.sound, ap length h.kept.whole, h.few)

-- ---- references

node-at : (shapes : List MemberShape) (n i : ℕ) (o : Option MemberShape) → i ≡ n - 1 → o ≡ slice_get shapes i
    → slice_get (node_numbers shapes) (n - 1) ≡ option_map (λ (m : MemberShape). m.node.0) o
node-at shapes n i o place is =
    ap (slice_get (node_numbers shapes)) (sym place)
    ∙ (slice_get-map (λ (m : MemberShape). m.node.0) shapes i ∙ ap (option_map (λ (m : MemberShape). m.node.0)) (sym is))

abbrev reference_or : Model → Option ℕ → List ℕ
reference_or c o = option_map_or (λ n. reference_at c n) o no_reference

-- the reference of a member that is found by its number, and of one that isn't
pub reference-found : (c : Model) (shapes : List MemberShape) (n i : ℕ) (s : MemberShape) → i ≡ n - 1 → Some s ≡ slice_get shapes i
    → reference_by c (node_numbers shapes) n ≡ reference_at c s.node.0
reference-found c shapes n i s place is = ap (reference_or c) (node-at shapes n i (Some s) place is)

pub reference-missing : (c : Model) (shapes : List MemberShape) (n i : ℕ) → i ≡ n - 1 → None ≡ slice_get shapes i → reference_by c (node_numbers shapes) n ≡ []
reference-missing c shapes n i place is = ap (reference_or c) (node-at shapes n i None place is)

-- it is a short one
pub reference-short : (c : Model) (shapes : List MemberShape) (n i : ℕ) (s : MemberShape) → IsShortSet c shapes → i ≡ n - 1
    → Some s ≡ slice_get shapes i → length (reference_at c s.node.0) ≤ 129
reference-short c shapes n i s short place is =
    all-at (λ n. length (reference_at c n) ≤ 129) (node_numbers shapes) (n - 1) s.node.0 short (node-at shapes n i (Some s) place is)
