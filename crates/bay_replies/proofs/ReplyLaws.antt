-- The replies by what is lent are those of the model.
use Rattle.std.proofs.Common.{◌≡◌, ◌≤◌, ℕ, suc, Bool, true, false, not, List, [], ◌∷◌, ◌++◌, length, map, filter, refl, sym, ap, ap₂, ◌∙◌, arith}
use Rattle.std.specs.Prelude.{if◌then◌else◌, ◌==◌, nat_lt, Option, None, Some, is_none, Ok, Err, max}
use Rattle.std.specs.Option.{option_map, option_map_or}
use Rattle.std.specs.Str.{bytes_eq}
use Rattle.std.proofs.lemmas.Bool.{lt-ltb, le-ltb}
use Rattle.std.proofs.lemmas.Bool.Decides.{nat_tests}
use Rattle.std.specs.List.{All, find}
use Rattle.std.proofs.lemmas.List.Elements.{All-nil, All-cons, All-head, All-tail}
use Rattle.sv_base.specs.declared.numbers.NodeId.{NodeId}
use Rattle.bay_model.specs.declared.object_classes.TheConstants.{NAMED_VARIABLE, NAMED_VARIABLE_LIST}
use Rattle.bay_model.specs.declared.service_errors.TheConstants.{ACCESS, OBJECT_NON_EXISTENT}
use Rattle.bay_model.specs.declared.reply.Reply.TheVariants as replies
use Rattle.bay_model.specs.declared.request.Scope.{Scope}
use Rattle.bay_model.specs.declared.request.Scope.TheVariants as scopes
use Rattle.bay_model.specs.declared.request.Service.{Service}
use Rattle.bay_model.specs.declared.request.Service.TheVariants as services
use Rattle.bay_model.specs.declared.request.SetName.{SetName}
use Rattle.bay_model.specs.Lookups.{node_of}
use Rattle.bay_model.specs.Model.{Model, DataSet, Role, single, several, selecting, calling}
use Rattle.bay_model.specs.Named.{configured_model}
use Rattle.bay_model.specs.Names.{names_of, is_unknown, variables_of}
use Rattle.bay_model.specs.Outcomes.{result_of}
use Rattle.bay_model.specs.Points.{Past}
use Rattle.bay_model.specs.Services.{reply, singles_of, set_name, set_reply, read_reply, read_set_reply, node_number}
use Rattle.bay_model.specs.Sets.{is_named, sets, set_named, dynamic}
use Rattle.bay_model.specs.Singles.{Single, reads, outcomes}
use Rattle.bay_model.specs.Sizes.{within}
use Rattle.data_sets.specs.declared.book.DeleteFault.TheVariants as faults
use Rattle.data_sets.specs.Books.{Booked, Book, is_name, place_of, number_named, set_at, deletion, deletion_of}
use Rattle.data_sets.specs.Standing.{data_set}
use Rattle.data_sets.proofs.HistoryLaws.{found, items}
use Rattle.data_sets.proofs.PlaceLaws.{within as within-sets}
use Rattle.list_laws.proofs.Among.{heads, tails}
use Rattle.bay_replies.specs.declared.replies.Replies.{Replies}
use Rattle.bay_replies.specs.Asking.{IsReading}
use Rattle.bay_replies.specs.Given.{node_read}
use Rattle.bay_replies.specs.Plain.{SelectsNothing}
use Rattle.bay_replies.specs.Reading.{selecting_of}
use Rattle.bay_replies.specs.Replied.{listed, scoped, is_fixed, set_by, asked_set, read_set_by, replied}
use Rattle.bay_replies.specs.Standing.{IsServed, StandAt, SetsStand}
use Rattle.bay_replies.proofs.GivenLaws.{node-told, plain-at}
use Rattle.bay_replies.proofs.PointLaws.{ReadsOnly, answer_to, results-told}

-- ---- singles that read

quiet-none : (role : Role) → SelectsNothing role → selecting_of role ≡ None
quiet-none (single l) h = refl
quiet-none several h = refl
quiet-none (selecting k) h = absurd h
quiet-none (calling k call) h = absurd h

nodes-only : (N : ℕ → Type 0) (ns : List NodeId) → All (λ (x : NodeId). N x.0) ns → ReadsOnly N (map reads (map (λ (x : NodeId). x.0) ns))
nodes-only N [] h = tt
nodes-only N (x ∷ ns) h = (All-head (λ (x : NodeId). N x.0) x ns h, nodes-only N ns (All-tail (λ (x : NodeId). N x.0) x ns h))

-- ---- sets

named-found : (n : SetName) (b : Book) (c : Model) (past : Past) → SetsStand b c past → option_map (λ k. data_set (set_at b k)) (number_named n b) ≡ set_named n (sets c past)
named-found n b c past h = found (λ (s : Booked). is_name n s.name) (is_named n) (λ s. refl) b.sets ∙ ap (find (is_named n)) h.sets

numbered : (ns : List NodeId) → map node_number (map (λ (n : NodeId). n.0) ns) ≡ ns
numbered [] = refl
numbered (n ∷ ns) = ap (λ l. n ∷ l) (numbered ns)

-- a set is one of the first exactly where its place is
first-sets : (p : Booked → Bool) (q : DataSet → Bool) → ((s : Booked) → p s ≡ q (data_set s)) → (bs : List Booked) (xs ys : List DataSet) (k : ℕ) → map data_set bs ≡ xs ++ ys → place_of p bs ≡ Some k
    → is_none (find q xs) ≡ not (nat_lt k (length xs))
first-sets p q same bs [] ys k are is = ap not (sym (le-ltb k 0 (omega arith)))
first-sets p q same [] (x ∷ xs) ys k are is = absurd cc
first-sets p q same (b ∷ bs) (x ∷ xs) ys k are is = by (p b) refl is (λ j. first-sets p q same bs xs ys j (tails (data_set b) x (map data_set bs) (xs ++ ys) are))
  where
    head : data_set b ≡ x
    head = heads (data_set b) x (map data_set bs) (xs ++ ys) are

    next : (o : Option ℕ) → option_map suc o ≡ Some k → (j : ℕ) × (o ≡ Some j) × (suc j ≡ k)
    next None e = absurd cc
    next (Some j) e = (j, refl, cc)

    below : (j : ℕ) → suc j ≡ k → nat_lt j (length xs) ≡ nat_lt k (suc (length xs))
    below j e = grind (arith, nat_tests, e)

    by : (t : Bool) → p b ≡ t → (if t then Some 0 else option_map suc (place_of p bs)) ≡ Some k
        → ((j : ℕ) → place_of p bs ≡ Some j → is_none (find q xs) ≡ not (nat_lt j (length xs)))
        → is_none (find q (x ∷ xs)) ≡ not (nat_lt k (length (x ∷ xs)))
    by true e is go =
        let zero-is : 0 ≡ k = cc in
        ap (λ t. is_none (if t then Some x else find q xs)) (ap q (sym head) ∙ (sym (same b) ∙ e))
        ∙ ap not (sym (lt-ltb k (suc (length xs)) (omega (arith, zero-is))))
    by false e is go =
        let j = next (place_of p bs) is in
        ap (λ t. is_none (if t then Some x else find q xs)) (ap q (sym head) ∙ (sym (same b) ∙ e))
        ∙ (go j.0 j.1 ∙ ap not (below j.0 j.2))

fixed-told : (b : Book) (k : ℕ) → is_fixed (deletion_of b (Some k)) ≡ nat_lt k b.configured
fixed-told b k = by (nat_lt k b.configured) (nat_lt 0 (set_at b k).holds)
  where
    by : (t u : Bool) → is_fixed (if t then Err faults.NotDeletable else (if u then Err faults.InUse else Ok k)) ≡ t
    by true u = refl
    by false true = refl
    by false false = refl

module _ (r : Replies) (c : Model) (past : Past) (n : SetName) (stand : SetsStand r.book.now c past) where
  deletable-told : (k : ℕ) → number_named n r.book.now ≡ Some k → not (is_fixed (deletion r.book.now n)) ≡ is_none (set_named n c.sets)
  deletable-told k is =
      ap (λ o. not (is_fixed (deletion_of r.book.now o))) is
      ∙ (ap not (fixed-told r.book.now k ∙ ap (nat_lt k) stand.count)
      ∙ sym (first-sets (λ (s : Booked). is_name n s.name) (is_named n) (λ s. refl) r.book.now.sets c.sets (dynamic past) k stand.sets is))

  set-told : (o : Option ℕ) → number_named n r.book.now ≡ o → set_by r n o ≡ set_reply c n (set_named n (sets c past))
  set-told None is = ap (set_reply c n) (sym (ap (option_map (λ k. data_set (set_at r.book.now k))) is) ∙ named-found n r.book.now c past stand)
  set-told (Some k) is =
      ap₂ replies.SetOf (deletable-told k is) (sym (numbered (set_at r.book.now k).nodes))
      ∙ ap (set_reply c n) (sym (ap (option_map (λ k. data_set (set_at r.book.now k))) is) ∙ named-found n r.book.now c past stand)

-- ---- the replies

module _ (r : Replies) (served : IsServed r.model.now r.store.now r.groups.now r.blocks.now r.book.now) (a n m : ℕ) (past : Past) (stand : StandAt r.model.now r.store.now r.groups.now r.blocks.now r.book.now r.was past) (later : r.now ≡ max m r.was) (moment : r.was ≤ 4294967295999) (size : ℕ) where
  abbrev cm : Model
  cm = configured_model r.model.now

  abbrev IsAllowed : NodeId → Type 0
  IsAllowed x = (node_of cm x.0).allowed ≡ true

  abbrev IsNoSbo : ℕ → Type 0
  IsNoSbo x = selecting_of (node_of cm x).role ≡ None

  results-are : (ss : List Single) → ReadsOnly IsNoSbo ss → map result_of (outcomes cm a n m ss past) ≡ map (answer_to (node_read r)) ss
  results-are ss h = results-told cm a m n (node_read r) past IsNoSbo (λ k x other. node-told r served m n past stand later moment a k x other) ss h

  -- members select nothing
  members-quiet : (ns : List NodeId) → All IsAllowed ns → All (λ (x : NodeId). IsNoSbo x.0) ns
  members-quiet [] h = All-nil (λ (x : NodeId). IsNoSbo x.0)
  members-quiet (x ∷ ns) h = All-cons (λ (x : NodeId). IsNoSbo x.0) x ns (quiet-none (node_of cm x.0).role ((plain-at r.model.now served.grouped x.0).member (All-head IsAllowed x ns h))) (members-quiet ns (All-tail IsAllowed x ns h))

  set-only : (name : SetName) (k : ℕ) → number_named name r.book.now ≡ Some k → ReadsOnly IsNoSbo (map reads (map (λ (x : NodeId). x.0) (set_at r.book.now k).nodes))
  set-only name k is = nodes-only IsNoSbo (set_at r.book.now k).nodes (members-quiet (set_at r.book.now k).nodes (served.plain k (within-sets (λ (s : Booked). is_name name s.name) r.book.now.sets k is)))

  members-told : (ns : List NodeId) → map (answer_to (node_read r)) (map reads (map (λ (x : NodeId). x.0) ns)) ≡ map (λ (x : NodeId). node_read r x.0) ns
  members-told [] = refl
  members-told (x ∷ ns) = ap (λ l. node_read r x.0 ∷ l) (members-told ns)

  abbrev members_reads : Option DataSet → List Single
  members_reads o = option_map_or (λ (s : DataSet). map reads s.nodes) o []

  read-set-told : (name : SetName) (spec : Bool) (o : Option ℕ) → number_named name r.book.now ≡ o
      → read_set_by r size name spec o ≡ read_set_reply size name spec (outcomes cm a n m (members_reads (set_named name (sets cm past))) past) (set_named name (sets cm past))
  read-set-told name spec o is = by o is ∙ ap (λ s. read_set_reply size name spec (outcomes cm a n m (members_reads s) past) s) (sym (ap (option_map (λ k. data_set (set_at r.book.now k))) is) ∙ named-found name r.book.now cm past stand.sets)
    where
      by : (o : Option ℕ) → number_named name r.book.now ≡ o
          → read_set_by r size name spec o ≡ read_set_reply size name spec (outcomes cm a n m (members_reads (option_map (λ k. data_set (set_at r.book.now k)) o)) past) (option_map (λ k. data_set (set_at r.book.now k)) o)
      by None is = refl
      by (Some k) is = ap (read_reply size (asked_set spec name)) (sym (results-are (map reads (map (λ (x : NodeId). x.0) (set_at r.book.now k).nodes)) (set-only name k is) ∙ members-told (set_at r.book.now k).nodes))

  scoped-told : (class : ℕ) (scope : Scope) → scoped r class scope ≡ names_of cm past class scope
  scoped-told class scopes.Vmd = refl
  scoped-told class (scopes.Domain d) = ap (λ l. if class == NAMED_VARIABLE then variables_of cm d else (if class == NAMED_VARIABLE_LIST then l else []))
      (items d r.book.now.sets ∙ ap (λ ss. map (λ (s : DataSet). s.item) (filter (λ (s : DataSet). bytes_eq s.domain d) ss)) stand.sets.sets)
  scoped-told class scopes.Assoc = refl

  pub replied-told : (s : Service) → IsReading s → replied r size s ≡ reply cm past size s (outcomes cm a n m (singles_of cm past s) past)
  replied-told services.Status h = refl
  replied-told services.Identify h = refl
  replied-told services.Conclude h = refl
  replied-told (services.Names class scope after) h = ap (λ l. if is_unknown cm scope then replies.Error ACCESS OBJECT_NON_EXISTENT else replies.Names (within size (listed after l))) (scoped-told class scope)
  replied-told (services.TypeOfNode t) h = refl
  replied-told (services.Read ts spec) h = absurd h
  replied-told (services.ReadSet domain item spec) h = read-set-told (set_name domain item) spec (number_named (set_name domain item) r.book.now) refl
  replied-told (services.WriteVars ws) h = absurd h
  replied-told (services.WriteSet domain item vs) h = absurd h
  replied-told (services.Define domain item members) h = absurd h
  replied-told (services.SetOf domain item) h = set-told r cm past (set_name domain item) stand.sets (number_named (set_name domain item) r.book.now) refl
  replied-told (services.Delete scope names) h = absurd h
  replied-told (services.Reject x) h = refl
