-- What octets spell as a request fits each configuration.
use Rattle.std.proofs.Common.{◌≡◌, ℕ, suc, ◌^◌, ◌<◌, inl, inr, Bool, true, false, ◌&&◌, ◌||◌, List, [], ◌∷◌}
use Rattle.std.proofs.Common.{map, length, take, drop, Option, None, Some, Result, Ok, Err, refl, sym, ap, subst, ◌∙◌, arith}
use Rattle.std.specs.Prelude.{IfOk, IfSome, MatchResult, is_some, nat_le, slice_index, if◌then◌else◌}
use Rattle.std.specs.Option.{option_map_or}
use Rattle.std.specs.List.{list_all, zip}
use Rattle.std.specs.Str.{bytes_eq}
use Rattle.std.proofs.lemmas.Bool.{and_from, le-leb, lt-ltb}
use Rattle.std.proofs.lemmas.List.{length-take, length-drop, take-append-drop}
use Rattle.std.proofs.lemmas.List.Quantifiers.{position-Some}
use Rattle.list_laws.proofs.Options.{some_is}
use Rattle.ber_grammar.specs.Octets.{IsBytes, big_endian}
use Rattle.ber_grammar.specs.Content.{IsVisible, IsText}
use Rattle.ber_grammar.specs.Element.{Element}
use Rattle.ber_grammar.proofs.OctetLaws.{AllBytes, IsRow-bytes, IsBytes-front, IsBytes-back, Spells-bytes, Begins-bytes, big_endian-below}
use Rattle.sv_base.specs.Tree.{Plain, Seen, Row, plain, structure, none, more, truth, int, uint, bits, time, stamp, text, octets, other}
use Rattle.sv_base.specs.declared.config.Config.{Config}
use Rattle.sv_base.proofs.RowLaws.{seen-value}
use Rattle.mms_data.specs.Grammar.{IsPlain, IsData, AreData as AreParts, IsWithin}
use Rattle.mms_data.specs.Reading.{in_row}
use Rattle.mms_pdu.specs.Each.{Each}
use Rattle.mms_pdu.specs.ObjectName.{Name, vmd, domain, association, IsName, IsOnlyName}
use Rattle.mms_pdu.specs.Variable.{Variable, IsVariable}
use Rattle.mms_pdu.specs.Access.{variables, named, IsRead, IsWrite}
use Rattle.mms_pdu.specs.VariableLists.{IsDefine, IsDelete}
use Rattle.mms_pdu.specs.Service as mms
use Rattle.mms_pdu.specs.Services.{IsService}
use Rattle.mms_pdu.specs.Request as pdus
use Rattle.mms_pdu.specs.RequestReading.{request_at}
use Rattle.mms_pdu.proofs.RequestLaws.{request_exact, request_spelled}
use Rattle.ber_grammar.proofs.ReaderLaws.{refuses_at}
use Rattle.bay_model.specs.Model.{Node, several}
use Rattle.bay_model.specs.Model as model
use Rattle.bay_model.specs.Named.{nodes}
use Rattle.bay_model.specs.declared.request.Target.TheVariants as targets
use Rattle.bay_model.specs.declared.request.Request.{Request}
use Rattle.object_model.specs.Nodes.{node_rows}
use Rattle.object_model.specs.Fits.{Counts, is_visible, is_sound_plain, is_sound_seen, are_sound, name_fits}
use Rattle.object_model.specs.Fits.{target_fits, write_fits, set_fits, set_name_fits, service_fits}
use Rattle.object_model.specs.Tables.{node_id}
use Rattle.object_model.proofs.TableLaws.{count-rows}
use Rattle.mms_elements.specs.declared.fault.PduFault.{PduFault}
use Rattle.mms_elements.specs.declared.fault.PduFault.TheVariants as faults
use Rattle.bay_model.specs.declared.request.Service.TheVariants as services
use Rattle.bay_requests.specs.Requests.{object_name, node_of, target, listed_target, set_name, write}
use Rattle.bay_requests.specs.Requests.{service, request_of, request_told, rejected, rejection_of, IsSpelled, IsFitting}

-- ---- texts and values

visible : (t : List ℕ) → ((k : ℕ) → k < length t → IsVisible (slice_index t k)) → is_visible t ≡ true
visible [] h = refl
visible (o ∷ os) h =
    let first : IsVisible o = h 0 (omega arith) in
    and_from _ _ (and_from _ _ (le-leb 32 o first.0) (le-leb o 126 first.1)) (visible os (λ k below. h (suc k) (omega (arith, below))))

text_visible : (content t : List ℕ) → IsText content t → is_visible t ≡ true
text_visible content t is = ap is_visible is.0 ∙ visible content is.1

-- three octets are a number below 2^24
part_below : (content : List ℕ) → IsBytes content → length content ≡ 8 → big_endian (take 3 (drop 4 content)) < 16777216
part_below content fits eight =
    let behind : IsBytes (drop 4 content) = IsBytes-back (take 4 content) (drop 4 content) (subst IsBytes (sym (take-append-drop 4 content)) fits) in
    let three : IsBytes (take 3 (drop 4 content)) =
    IsBytes-front (take 3 (drop 4 content)) (drop 3 (drop 4 content)) (subst IsBytes (sym (take-append-drop 3 (drop 4 content))) behind) in
    let count : length (take 3 (drop 4 content)) ≡ 3 = omega (arith, length-take 3 (drop 4 content), length-drop 4 content, eight) in
    subst (λ n. big_endian (take 3 (drop 4 content)) < 256 ^ n) count (big_endian-below (take 3 (drop 4 content)) three)

plain_sound : (p : Plain) (e : Element) → IsBytes e.content → IsPlain p e → is_sound_plain p ≡ true
plain_sound (truth b) e fits is = refl
plain_sound (int z) e fits is = refl
plain_sound (uint n) e fits is = refl
plain_sound (bits b) e fits is = refl
plain_sound (time secs frac quality) e fits is = lt-ltb frac 16777216 (subst (λ n. n < 16777216) (sym is.1.2) (part_below e.content fits is.1.0))
plain_sound (stamp ms days) e fits is = refl
plain_sound (text t) e fits is = text_visible e.content t is.1
plain_sound (octets o) e fits is = refl
plain_sound other e fits is = refl

mutual
  data_sound : (s : Seen) (e : Element) → IsBytes e.content → IsData s e → is_sound_seen s ≡ true
  data_sound (plain p) e fits is = plain_sound p e fits is
  data_sound (structure r) e fits is = parts_sound r is.1 (IsRow-bytes e.content is.1 fits is.2) is.3

  parts_sound : (r : Row) (es : List Element) → AllBytes es → AreParts r es → are_sound r ≡ true
  parts_sound none es fits is = refl
  parts_sound (more s r) [] fits is = absurd is
  parts_sound (more s r) (e ∷ es) fits is = and_from _ _ (data_sound s e fits.0 is.0) (parts_sound r es fits.1 is.1)

-- the values of a list
row_sound : (es : List Element) (ds : List Seen) → AllBytes es → Each (IsWithin 10) es ds → are_sound (in_row ds) ≡ true
row_sound [] [] fits are = refl
row_sound [] (d ∷ ds) fits are = absurd are
row_sound (e ∷ es) [] fits are = absurd are
row_sound (e ∷ es) (d ∷ ds) fits are = and_from _ _ (data_sound d e fits.0 are.0.0) (row_sound es ds fits.1 are.1)

-- ---- names

named_fits : (e : Element) (n : Name (List ℕ)) → IsName e n → name_fits (object_name n) ≡ true
named_fits e (vmd o) is = refl
named_fits e (domain d i) (tag, a, b, row, first, second) = and_from _ _ (text_visible a.content d first.1) (text_visible b.content i second.1)
named_fits e (association o) is = refl

or_true : (a b : Bool) → b ≡ true → (a || b) ≡ true
or_true true b h = refl
or_true false b h = h

set_named_fits : (e : Element) (n : Name (List ℕ)) → IsName e n → set_fits (set_name n).domain (set_name n).item ≡ true
set_named_fits e (vmd o) is = refl
set_named_fits e (domain d i) is = or_true _ _ (named_fits e (domain d i) is)
set_named_fits e (association o) is = refl

sets_fit : (es : List Element) (ns : List (Name (List ℕ))) → Each IsName es ns → list_all set_name_fits (map set_name ns) ≡ true
sets_fit [] [] are = refl
sets_fit [] (n ∷ ns) are = absurd are
sets_fit (e ∷ es) [] are = absurd are
sets_fit (e ∷ es) (n ∷ ns) are = and_from _ _ (set_named_fits e n are.0) (sets_fit es ns are.1)

-- ---- variables

no_node : Node
no_node = record { domain = []; item = []; role = several; tree = model.structure model.none; attrs = []; allowed = false }

named_below : (c : Config) (n : Name (List ℕ)) (k : ℕ) → node_of c n ≡ Some k → k < length (node_rows c)
named_below c (vmd o) k h = absurd cc
named_below c (association o) k h = absurd cc
named_below c (domain d i) k h = omega (arith, (position-Some (λ (x : Node). bytes_eq d x.domain && bytes_eq i x.item) (nodes c) k no_node h).0, count-rows c)

module _ (c : Config) (counts : Counts) (rows : counts.nodes ≡ length (node_rows c)) where
  target_fit : (n : Name (List ℕ)) → name_fits (object_name n) ≡ true → target_fits counts (target c n) ≡ true
  target_fit n h = by (node_of c n) refl
    where
      by : (o : Option ℕ) → node_of c n ≡ o
          → target_fits counts (option_map_or (λ k. targets.Node (node_id k) (object_name n)) o (targets.Missing (object_name n))) ≡ true
      by None e = h
      by (Some k) e = and_from _ _ (lt-ltb k counts.nodes (omega (arith, named_below c n k e, rows))) h

  listed_fit : (v : Variable (List ℕ)) → name_fits (object_name v.name) ≡ true → target_fits counts (listed_target c v) ≡ true
  listed_fit v h = by (v.alternate && is_some (node_of c v.name))
    where
      by : (b : Bool) → target_fits counts (if b then targets.Alternate (object_name v.name) else target c v.name) ≡ true
      by true = h
      by false = target_fit v.name h

  variable_fits : (e : Element) (v : Variable (List ℕ)) → IsVariable e v → target_fits counts (listed_target c v) ≡ true
  variable_fits e v (tag, [], row, is) = absurd is
  variable_fits e v (tag, (s ∷ others), row, is) = listed_fit v (named_fits is.1.0 v.name is.1.2)

  variables_fit : (es : List Element) (vs : List (Variable (List ℕ))) → Each IsVariable es vs → list_all (target_fits counts) (map (listed_target c) vs) ≡ true
  variables_fit [] [] are = refl
  variables_fit [] (v ∷ vs) are = absurd are
  variables_fit (e ∷ es) [] are = absurd are
  variables_fit (e ∷ es) (v ∷ vs) are = and_from _ _ (variable_fits e v are.0) (variables_fit es vs are.1)

  write_fit : (v : Variable (List ℕ)) (d : Seen) → target_fits counts (listed_target c v) ≡ true → is_sound_seen d ≡ true
      → write_fits counts (write c (v, d)) ≡ true
  write_fit v d target sound = and_from _ _ target (ap is_sound_seen (seen-value d) ∙ sound)

  writes_fit : (es fs : List Element) (vs : List (Variable (List ℕ))) (ds : List Seen) → AllBytes fs → Each IsVariable es vs → Each (IsWithin 10) fs ds
      → list_all (write_fits counts) (map (write c) (zip vs ds)) ≡ true
  writes_fit es fs [] ds fits are values = refl
  writes_fit es fs (v ∷ vs) [] fits are values = refl
  writes_fit [] fs (v ∷ vs) (d ∷ ds) fits are values = absurd are
  writes_fit (e ∷ es) [] (v ∷ vs) (d ∷ ds) fits are values = absurd values
  writes_fit (e ∷ es) (f ∷ fs) (v ∷ vs) (d ∷ ds) fits are values =
      and_from _ _ (write_fit v d (variable_fits e v are.0) (data_sound d f fits.0 values.0.0)) (writes_fit es fs vs ds fits.1 are.1 values.1)

  -- ---- services

  only_fits : (content : List ℕ) (n : Name (List ℕ)) → IsOnlyName content n → name_fits (object_name n) ≡ true
  only_fits content n is = named_fits is.0 n is.2

  only_set_fits : (content : List ℕ) (n : Name (List ℕ)) → IsOnlyName content n → set_fits (set_name n).domain (set_name n).item ≡ true
  only_set_fits content n is = set_named_fits is.0 n is.2

  read_fits : (es : List Element) (vs : List (Variable (List ℕ))) (spec : Bool) → IsRead es (variables vs) spec
      → list_all (target_fits counts) (map (listed_target c) vs) ≡ true
  read_fits [] vs spec is = absurd is
  read_fits (a ∷ []) vs spec is = variables_fit is.1.3.1.0 vs is.1.3.1.2
  read_fits (b ∷ a ∷ []) vs spec is = variables_fit is.2.3.1.0 vs is.2.3.1.2
  read_fits (b ∷ a ∷ d ∷ es) vs spec is = absurd is

  read_set_fits : (es : List Element) (n : Name (List ℕ)) (spec : Bool) → IsRead es (named n) spec → set_fits (set_name n).domain (set_name n).item ≡ true
  read_set_fits [] n spec is = absurd is
  read_set_fits (a ∷ []) n spec is = only_set_fits _ n is.1.3.1
  read_set_fits (b ∷ a ∷ []) n spec is = only_set_fits _ n is.2.3.1
  read_set_fits (b ∷ a ∷ d ∷ es) n spec is = absurd is

  write_vars_fit : (es : List Element) (vs : List (Variable (List ℕ))) (ds : List Seen) → AllBytes es → IsWrite es (variables vs) ds
      → list_all (write_fits counts) (map (write c) (zip vs ds)) ≡ true
  write_vars_fit [] vs ds fits is = absurd is
  write_vars_fit (a ∷ []) vs ds fits is = absurd is
  write_vars_fit (a ∷ d ∷ []) vs ds fits is =
      writes_fit is.0.1.0 is.2.0 vs ds (IsRow-bytes d.content is.2.0 fits.1.0 is.2.1) is.0.1.2 is.2.2
  write_vars_fit (a ∷ d ∷ e ∷ es) vs ds fits is = absurd is

  write_set_fits : (es : List Element) (n : Name (List ℕ)) (ds : List Seen) → AllBytes es → IsWrite es (named n) ds
      → (set_fits (set_name n).domain (set_name n).item && are_sound (in_row ds)) ≡ true
  write_set_fits [] n ds fits is = absurd is
  write_set_fits (a ∷ []) n ds fits is = absurd is
  write_set_fits (a ∷ d ∷ []) n ds fits is =
      and_from _ _ (only_set_fits _ n is.0.1) (row_sound is.2.0 ds (IsRow-bytes d.content is.2.0 fits.1.0 is.2.1) is.2.2)
  write_set_fits (a ∷ d ∷ e ∷ es) n ds fits is = absurd is

  define_fits : (es : List Element) (n : Name (List ℕ)) (vs : List (Variable (List ℕ))) → IsDefine es n vs
      → (set_fits (set_name n).domain (set_name n).item && list_all (target_fits counts) (map (listed_target c) vs)) ≡ true
  define_fits [] n vs is = absurd is
  define_fits (a ∷ []) n vs is = absurd is
  define_fits (a ∷ b ∷ []) n vs is = and_from _ _ (set_named_fits a n is.0) (variables_fit is.2.0 vs is.2.2)
  define_fits (a ∷ b ∷ d ∷ es) n vs is = absurd is

  none_fit : (ns : List (Name (List ℕ))) → ns ≡ [] → list_all set_name_fits (map set_name ns) ≡ true
  none_fit ns h = ap (λ (xs : List (Name (List ℕ))). list_all set_name_fits (map set_name xs)) h

  delete_fits : (es : List Element) (s : ℕ) (ns : List (Name (List ℕ))) → IsDelete es s ns → list_all set_name_fits (map set_name ns) ≡ true
  delete_fits [] s ns is = none_fit ns is.1
  delete_fits (a ∷ []) s ns (inl is) = none_fit ns is.1
  delete_fits (a ∷ []) s ns (inr is) = sets_fit is.1.1 ns is.1.3
  delete_fits (a ∷ b ∷ []) s ns is = sets_fit is.1.1 ns is.1.3
  delete_fits (a ∷ b ∷ d ∷ es) s ns is = absurd is

  service_fit : (e : Element) (s : mms.Service (List ℕ) Seen) → IsBytes e.content → IsService e s → service_fits counts (service c s) ≡ true
  service_fit e mms.status fits is = refl
  service_fit e mms.identify fits is = refl
  service_fit e (mms.names class s after) fits is = refl
  service_fit e (mms.type_of_node n) fits is = target_fit n (only_fits _ n is.4)
  service_fit e (mms.read vs spec) fits is = read_fits is.1 vs spec is.3
  service_fit e (mms.read_set n spec) fits is = read_set_fits is.1 n spec is.3
  service_fit e (mms.write_vars vs ds) fits is = write_vars_fit is.1 vs ds (IsRow-bytes e.content is.1 fits is.2) is.3
  service_fit e (mms.write_set n ds) fits is = write_set_fits is.1 n ds (IsRow-bytes e.content is.1 fits is.2) is.3
  service_fit e (mms.define n vs) fits is = define_fits is.1 n vs is.3
  service_fit e (mms.set_of n) fits is = only_set_fits _ n is.1
  service_fit e (mms.delete s ns) fits is = delete_fits is.1 s ns is.3

-- ---- requests

abbrev counts_of : Config → Counts
counts_of c = record { nodes = length (node_rows c); blocks = length c.blocks; controls = length c.controls }

fitting : (c : Config) (r : Request) → service_fits (counts_of c) r.service ≡ true → IsFitting c r
fitting c r h a is = and_from _ _ is h

pub request-fits : (c : Config) (x : pdus.Request (List ℕ) Seen) (r : Request) → IsSpelled x → Some r ≡ request_of c x → IsFitting c r
request-fits c (pdus.confirmed i s) r (input, bytes, (e, spells, tag, rest, invoked, f, within, is)) made =
    let content = Spells-bytes input e bytes spells in
    let behind = (Begins-bytes e.content invoked.0 rest content invoked.1).1 in
    let within_it = service_fit c (counts_of c) refl f s (Spells-bytes rest f behind within) is in
    subst (IsFitting c) (sym (some_is r _ made)) (fitting c (record { invoke = i; service = service c s }) within_it)
request-fits c pdus.conclude r spelled made = subst (IsFitting c) (sym (some_is r _ made)) (fitting c (record { invoke = 0; service = services.Conclude }) refl)
request-fits c pdus.disregarded r spelled made = absurd cc

rejected-fits : (c : Config) (r : Request) (i n : ℕ) → (nat_le 1 n && nat_le n 4) ≡ true → Some r ≡ rejected i n → IsFitting c r
rejected-fits c r i n h made = subst (IsFitting c) (sym (some_is r _ made)) (fitting c (record { invoke = i; service = services.Reject n }) h)

pub rejection-fits : (c : Config) (f : PduFault) (r : Request) → Some r ≡ rejection_of f → IsFitting c r
rejection-fits c faults.UnknownPdu r made = rejected-fits c r 0 1 refl made
rejection-fits c (faults.UnknownService i) r made = rejected-fits c r i 2 refl made
rejection-fits c (faults.Argument i) r made = rejected-fits c r i 3 refl made
rejection-fits c faults.Invalid r made = rejected-fits c r 0 4 refl made
rejection-fits c (faults.SmallSize n) r made = absurd cc

-- ---- what octets are read as

asked-fits : (c : Config) (x : pdus.Request (List ℕ) Seen) (r : Option Request) → IsSpelled x → r ≡ request_of c x → IfSome r (IsFitting c)
asked-fits c x None spelled made = tt
asked-fits c x (Some r) spelled made = request-fits c x r spelled made

refused-fits : (c : Config) (f : PduFault) (r : Option Request) → r ≡ rejection_of f → IfSome r (IsFitting c)
refused-fits c f None made = tt
refused-fits c f (Some r) made = rejection-fits c f r made

told-fits : (c : Config) (input : List ℕ) (read : Result (pdus.Request (List ℕ) Seen) PduFault) (r : Option Request) → IsBytes input
    → MatchResult read (pdus.IsRequest input) (pdus.IsRequestRefused input) → r ≡ request_told c read → IfSome r (IsFitting c)
told-fits c input (Ok x) r fits is made = asked-fits c x r (input, fits, is) made
told-fits c input (Err f) r fits is made = refused-fits c f r made

module _ {E : Type 0} (c : Config) (input : List ℕ) (fits : IsBytes input) where
  pub read-spelled : (r : Result (Option Request) E) (x : pdus.Request (List ℕ) Seen) → pdus.IsRequest input x
      → IfOk r (λ q. q ≡ request_told c (request_at input)) → IfOk r (λ q. q ≡ request_of c x)
  read-spelled (Ok q) x is made = made ∙ ap (request_told c) (request_spelled input x fits is)
  read-spelled (Err e) x is made = tt

  pub read-refused : (r : Result (Option Request) E) (f : PduFault) → pdus.IsRequestRefused input f
      → IfOk r (λ q. q ≡ request_told c (request_at input)) → IfOk r (λ q. q ≡ rejection_of f)
  read-refused (Ok q) f is made = made ∙ ap (request_told c) (sym (refuses_at (request_at input) f ((request_exact input fits).refuses f is)))
  read-refused (Err e) f is made = tt

  pub read-fits : (r : Result (Option Request) E) → IfOk r (λ q. q ≡ request_told c (request_at input)) → IfOk r (λ q. IfSome q (IsFitting c))
  read-fits (Ok q) made = told-fits c input (request_at input) q fits (request_exact input fits).tells made
  read-fits (Err e) made = tt
