-- What the tests of an output say.
use Rattle.std.proofs.Common.{◌≡◌, ◌≤◌, ◌<◌, ◌-◌, ◌++◌, length-append, ℕ, zero, suc, Bool, true, false, true≢false, List, [], ◌∷◌, length, refl, sym, ap, subst, ◌∙◌, arith, max}
use Rattle.std.specs.Prelude.{Some, IfSome, Result, Ok, Err, is_ok, IsTrue, nat_lt, slice_get, codes}
use Rattle.std.specs.List.{All, list_all, AllByRecursion}
use Rattle.std.proofs.lemmas.Bool.Decides.{nat_tests}
use Rattle.std.proofs.lemmas.List.Elements.{All-from_recursion}
use Rattle.std.proofs.lemmas.Option.{slice_get_within}
use Rattle.ber_grammar.specs.Fields.{whole_at}
use Rattle.ber_grammar.specs.Place.{Spot}
use Rattle.ber_grammar.specs.Reader.{Reads}
use Rattle.ber_grammar.proofs.FieldLaws.{whole_found}
use Rattle.sv_base.specs.Tree.{Plain, Seen, Row, plain, structure, none, more, truth, int, uint, bits, time, stamp, text, octets, other}
use Rattle.sv_base.specs.Seen.{seen_of}
use Rattle.sv_base.specs.Depth.{IsNotOther, SeenHasNoOther, RowHasNoOther, depth_seen, depth_row}
use Rattle.sv_base.specs.Data.{data_of}
use Rattle.sv_base.specs.declared.config.Config.{Config}
use Rattle.sv_base.specs.declared.config.CtlDef.{CtlDef}
use Rattle.sv_base.specs.declared.numbers.NodeId.{NodeId}
use Rattle.sv_base.specs.declared.value.Value.{Value}
use Rattle.sv_base.specs.declared.value.Value.TheVariants as kinds
use Rattle.mms_data.specs.declared.fault.DataFault.{DataFault}
use Rattle.mms_data.specs.Grammar.{IsSpelled, IsRefusedData}
use Rattle.mms_data.specs.View.{IsViewed}
use Rattle.mms_data.specs.Writable.{IsFraction, SeenHasFractions, RowHasFractions}
use Rattle.object_model.specs.Nodes.{node_rows}
use Rattle.object_model.proofs.TableLaws.{count-rows}
use Rattle.bay_model.specs.declared.control.Termination.{Termination}
use Rattle.bay_model.specs.declared.reply.Asked.{Asked}
use Rattle.bay_model.specs.declared.reply.Reply.{Reply}
use Rattle.bay_model.specs.declared.reply.Reply.TheVariants as replies
use Rattle.bay_model.specs.declared.tables.NodeRow.{NodeRow}
use Rattle.output_shapes.specs.Shapes.{HasShortName, IsShortError, IsShortTermination, IsWritable, IsNode, CanBeReplied}
use Rattle.output_pdus.specs.Sendable.{is_plain_writable, is_seen_writable, are_writable, is_result_writable, are_nodes}
use Rattle.list_laws.proofs.Truths.{and-both as both}

plain-tells : (p : Plain) → is_plain_writable p ≡ true → IsNotOther p × IsFraction p
plain-tells (truth b) h = (tt, tt)
plain-tells (int z) h = (tt, tt)
plain-tells (uint n) h = (tt, tt)
plain-tells (bits bs) h = (tt, tt)
plain-tells (time secs frac quality) h = (tt, grind (arith, nat_tests))
plain-tells (stamp ms days) h = (tt, tt)
plain-tells (text t) h = (tt, tt)
plain-tells (octets o) h = (tt, tt)
plain-tells other h = absurd cc

most-of : (a b n : ℕ) → a ≤ n → b ≤ n → max a b ≤ n
most-of a b n h k = omega (arith, h, k)

mutual
  seen-tells : (n : ℕ) (s : Seen) → is_seen_writable n s ≡ true → SeenHasNoOther s × (depth_seen s ≤ n) × SeenHasFractions s
  seen-tells zero s h = absurd cc
  seen-tells (suc n) (plain p) h = let t = plain-tells p h in (t.0, omega arith, t.1)
  seen-tells (suc n) (structure r) h = let t = row-tells n r h in (t.0, omega (arith, t.1), t.2)

  row-tells : (n : ℕ) (r : Row) → are_writable n r ≡ true → RowHasNoOther r × (depth_row r ≤ n) × RowHasFractions r
  row-tells n none h = (tt, omega arith, tt)
  row-tells n (more s r) h =
      let b = both (is_seen_writable n s) (are_writable n r) h in
      let t = seen-tells n s b.0 in
      let u = row-tells n r b.1 in
      ((t.0, u.0), most-of (depth_seen s) (depth_row r) n t.1 u.1, (t.2, u.2))

-- a structure, at a depth that isn't 0
pub structure-writable : (n : ℕ) (r : Row) (v : Value) → (n ≡ 0 → ⊥) → v ≡ kinds.Struct r → is_seen_writable n (seen_of v) ≡ are_writable (n - 1) r
structure-writable zero r v some is = absurd (some refl)
structure-writable (suc n) r v some is = let same : n ≡ suc n - 1 = omega arith in ap (λ v. is_seen_writable (suc n) (seen_of v)) is ∙ ap (λ m. are_writable m r) same

result-tells : (r : Result Value ℕ) → is_result_writable r ≡ true → IsWritable r
result-tells (Ok v) h = seen-tells 10 (seen_of v) h
result-tells (Err code) h = tt

-- a test of each says a fact of each
each : {A : Type 0} (test : A → Bool) (P : A → Type 0) → ((x : A) → test x ≡ true → P x) → (xs : List A) → list_all test xs ≡ true → AllByRecursion P xs
each test P tells [] h = tt
each test P tells (x ∷ xs) h = let b = both (test x) (list_all test xs) h in (tells x b.0, each test P tells xs b.1)

pub results-tell : (rs : List (Result Value ℕ)) → list_all is_result_writable rs ≡ true → All IsWritable rs
results-tell rs h = All-from_recursion IsWritable rs (each is_result_writable IsWritable result-tells rs h)

pub node-tells : (c : Config) (n : NodeId) → n.0 < length (node_rows c) → IsNode c n
node-tells c n h = omega (arith, h, count-rows c)

pub nodes-tell : (c : Config) (ns : List NodeId) → are_nodes (length (node_rows c)) ns ≡ true → All (IsNode c) ns
nodes-tell c ns h = All-from_recursion (IsNode c) ns (each (λ (n : NodeId). nat_lt n.0 (length (node_rows c))) (IsNode c) (λ n t. node-tells c n (grind (arith, nat_tests))) ns h)

-- ---- as the tests are made of a reply

pub node-test : (c : Config) (reply : Reply) (n : NodeId) (count : ℕ) (rows : List NodeRow) → reply ≡ replies.TypeOfNode n → count ≡ length rows → rows ≡ node_rows c → IsTrue (nat_lt n.0 count) → CanBeReplied c reply
node-test c reply n count rows is counted same low =
    let below : n.0 < count = grind (arith, nat_tests) in
    subst (CanBeReplied c) (sym is) (node-tells c n (omega (arith, below, counted, ap length same)))

pub results-test : (c : Config) (reply : Reply) (asked : Asked) (results seen : List (Result Value ℕ)) (b : Bool) → reply ≡ replies.Read asked results → seen ≡ results → b ≡ list_all is_result_writable seen → IsTrue b → CanBeReplied c reply
results-test c reply asked results seen b is same told sure =
    subst (CanBeReplied c) (sym is) (results-tell results (sym (ap (list_all is_result_writable) same) ∙ (sym told ∙ sure)))

pub nodes-test : (c : Config) (reply : Reply) (deletable : Bool) (members seen : List NodeId) (count : ℕ) (rows : List NodeRow) (b : Bool) → reply ≡ replies.SetOf deletable members → seen ≡ members → count ≡ length rows → rows ≡ node_rows c
    → b ≡ are_nodes count seen → IsTrue b → CanBeReplied c reply
nodes-test c reply deletable members seen count rows b is same counted rows-are told sure =
    subst (CanBeReplied c) (sym is) (nodes-tell c members (sym (ap (are_nodes (length (node_rows c))) same ∙ refl) ∙ (ap (λ n. are_nodes n seen) (sym (counted ∙ ap length rows-are)) ∙ (sym told ∙ sure))))

-- octets that are one element which is viewed as Data
pub data-test : (input : List ℕ) (part : Spot) (viewed : Result Spot DataFault) (b : Bool) → whole_at input ≡ Some part.element → Reads {Y = Spot} (λ d. d) viewed (IsViewed part) (IsRefusedData 10 part.element) → b ≡ is_ok viewed → IsTrue b
    → (s : Seen) × IsSpelled input s
data-test input part (Ok d) b whole reads told sure =
    let v : IsViewed part d = reads.tells in (v.1, (part.element, whole_found input part.element whole, v.2))
data-test input part (Err f) b whole reads told sure = absurd (true≢false (sym sure ∙ told))

-- ---- what is said of commands

pub writable : (v : Value) → is_seen_writable 10 (seen_of v) ≡ true → IsWritable (Ok v)
writable v h = seen-tells 10 (seen_of v) h

pub short_name : (k : CtlDef) → length k.domain ≤ 129 → length k.ln ≤ 64 → length k.path ≤ 56 → HasShortName k
short_name k domain ln path = record {
  domain = domain;
  item = omega (arith, length-append k.ln (codes "$CO$" ++ (k.path ++ codes "$Oper")), length-append (codes "$CO$") (k.path ++ codes "$Oper"), length-append k.path (codes "$Oper"));
}

-- a termination of a control that is there
pub ends : (c : Config) (t : Termination) (k : CtlDef) → slice_get c.controls t.control.0 ≡ Some k → HasShortName k → IfSome t.error IsShortError → is_seen_writable 10 (seen_of t.oper) ≡ true → length (data_of t.oper) ≤ 300
    → IsShortTermination c t × IsWritable (Ok t.oper)
ends c t k is name error full oper = (
  record {
    control = slice_get_within c.controls t.control.0 k is;
    name = λ other e. let same : k ≡ other = cc in subst HasShortName same name;
    oper = oper;
    error = error;
  },
  writable t.oper full,
)
