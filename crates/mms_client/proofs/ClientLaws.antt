-- What a client stands for after a call.
use Rattle.std.proofs.Common.{◌≡◌, ℕ, suc, ◌+◌, inl, inr, List, [], ◌∷◌, ◌++◌, length, Result, Ok, Err, MatchResult, IfOk, sym, ap, subst, ◌∙◌, append_assoc, append-nil, arith}
use Rattle.std.proofs.lemmas.List.{length-append}
use Rattle.std.specs.Io.KnownBytes.{Appends}
use Rattle.sv_io.specs.Causes.{GrowsByFront}
use Rattle.bay_model.specs.declared.report.Report.{Report}
use Rattle.mms_pdu.specs.Reply.{Reply}
use Rattle.osi_stack.specs.declared.events.Line.{Line}
use Rattle.osi_stack.specs.Framed.{framed}
use Rattle.mms_client.specs.declared.association.Association.{Association}
use Rattle.mms_client.specs.declared.client.Client.{Client}
use Rattle.mms_client.specs.declared.incoming.Incoming.{Incoming}
use Rattle.mms_client.specs.declared.fault.ClientFault.{ClientFault}
use Rattle.mms_client.specs.declared.meaning.Awaited.{Awaited}
use Rattle.mms_client.specs.declared.meaning.Awaited.TheVariants as awaits
use Rattle.mms_client.specs.declared.meaning.Outcome.{Outcome}
use Rattle.mms_client.specs.Requests.{Request, number_after, pdu_of, request_octets, requests_octets, octets_written, opening_octets, conclude_octets, finish_octets}
use Rattle.mms_client.specs.Meaning.{Gives, AnswersWrite}
use Rattle.mms_client.specs.Following.{Ends, OnlyReads, Writes, Follows, GoesOn, GoesToReport, Replies, FailsFor, IsBounded, Numbers, GoesToEnd, FailsToEnd}
use Rattle.mms_client.specs.Standing.{Asks, GivesReport, Resumes, Concludes, FailsToAsk, FailsToReport, FailsToResume, FailsToConclude}
use Rattle.mms_client.proofs.LinkLaws.{Appends-same, front_none}

-- ---- reports

report_stands : (old new : Client) (incoming : Incoming) (a b : Ends) (r : Report) → new.association ≡ record { incoming = incoming; line = old.association.line; invoke = old.association.invoke } → new.fault ≡ old.fault
    → OnlyReads a b → (IsBounded old.association.incoming → IsBounded incoming) → GoesToReport old.association.incoming incoming a.left b.left r → GivesReport old new a b r
report_stands old new incoming a b r same fault only bounded goes read wrote requests given all st =
    let x = goes read given st.taken all st.follows in
    record {
      more = x.more;
      passes = (x.consumes, Appends-same a.taken b.taken only.1);
      next = x.next;
      stands = record {
        fault = fault ∙ st.fault;
        taken = x.taken;
        follows = subst (λ (i : Incoming). Follows i (read ++ x.more) (given ++ r ∷ []) x.taken x.next) (sym (ap (λ (s : Association). s.incoming) same)) x.follows;
        replied = ap (length {A = Reply (List ℕ)}) x.same ∙ st.replied;
        number = ap (λ (s : Association). s.invoke) same ∙ st.number;
        octets = st.octets ∙ ap (λ (l : Line). octets_written l requests) (sym (ap (λ (s : Association). s.line) same));
        bounded = subst IsBounded (sym (ap (λ (s : Association). s.incoming) same)) (bounded st.bounded);
      };
    }

pub report_gives : (old new : Client) (incoming : Incoming) (a b : Ends) (r done : Result Report ClientFault) → r ≡ done → new.association ≡ record { incoming = incoming; line = old.association.line; invoke = old.association.invoke }
    → IfOk done (λ _. new.fault ≡ old.fault) → OnlyReads a b → (IsBounded old.association.incoming → IsBounded incoming)
    → MatchResult done (λ x. GoesToReport old.association.incoming incoming a.left b.left x) (λ f. FailsFor old.association.incoming a b awaits.Reports f)
    → MatchResult r (λ x. GivesReport old new a b x) (λ f. FailsToReport old f a b)
report_gives old new incoming a b r done is same fault only bounded goes = subst (λ (y : Result Report ClientFault). MatchResult y (λ x. GivesReport old new a b x) (λ f. FailsToReport old f a b)) (sym is) (by done fault goes)
  where
    by : (done : Result Report ClientFault) → IfOk done (λ _. new.fault ≡ old.fault)
        → MatchResult done (λ x. GoesToReport old.association.incoming incoming a.left b.left x) (λ f. FailsFor old.association.incoming a b awaits.Reports f)
        → MatchResult done (λ x. GivesReport old new a b x) (λ f. FailsToReport old f a b)
    by (Ok x) fault goes = report_stands old new incoming a b x same fault only bounded goes
    by (Err f) fault fails = λ read wrote requests given all st. (fails read given st.taken all st.follows, front_none a.taken b.taken [] only.1)

-- ---- requests

requests-append : (line : Line) (count k : ℕ) (rs : List Request) (r : Request) → k ≡ count + length rs → requests_octets line count (rs ++ r ∷ []) ≡ requests_octets line count rs ++ request_octets line k r
requests-append line count k [] r is = append-nil (request_octets line count r) ∙ ap (λ (n : ℕ). request_octets line n r) (count_is is)
  where
    count_is : k ≡ count + length {A = Request} [] → count ≡ k
    count_is is = omega arith
requests-append line count k (x ∷ xs) r is =
    ap (λ (o : List ℕ). request_octets line count x ++ o) (requests-append line (suc count) k xs r (omega arith))
    ∙ sym (append_assoc (request_octets line count x) (requests_octets line (suc count) xs) (request_octets line k r))

written-append : (line : Line) (rs : List Request) (r : Request) → octets_written line (rs ++ r ∷ []) ≡ octets_written line rs ++ request_octets line (length rs) r
written-append line rs r = ap (λ (o : List ℕ). opening_octets line ++ o) (requests-append line 0 (length rs) rs r (omega arith)) ∙ sym (append_assoc (opening_octets line) (requests_octets line 0 rs) (request_octets line (length rs) r))

length-one_more : {A : Type 0} (xs : List A) (x : A) → length (xs ++ x ∷ []) ≡ suc (length xs)
length-one_more xs x = omega (arith, length-append xs (x ∷ []))

request_is : (line : Line) (invoke count : ℕ) (request : Request) → invoke ≡ number_after count → framed line (pdu_of invoke request) ≡ request_octets line count request
request_is line invoke count request is = ap (λ (n : ℕ). framed line (pdu_of n request)) is

asks_ok : (old new : Client) (next : Association) (a b : Ends) (request : Request) (w : ℕ → Awaited) (o : Outcome) (Says : ℕ → Reply (List ℕ) → Type 0)
    → ((n : ℕ) (y : Reply (List ℕ)) → Gives (w n) y o → Says n y)
    → new.association ≡ next → new.fault ≡ old.fault → Numbers old.association next → (IsBounded old.association.incoming → IsBounded next.incoming)
    → GoesOn old.association.incoming next.incoming a.left b.left (λ x h k. Replies (w old.association.invoke) o h k) → Appends a.taken b.taken (framed old.association.line (pdu_of old.association.invoke request))
    → Asks old new a b request Says
asks_ok old new next a b request w o Says says same fault numbers bounded goes sent read wrote requests given all st =
    let x = goes read given st.taken all st.follows in
    let octets = request_is old.association.line old.association.invoke (length requests) request st.number in
    record {
      more = x.more;
      passes = (x.consumes, subst (λ (t : List ℕ). Appends a.taken b.taken t) octets sent);
      next = x.next;
      stands = record {
        fault = fault ∙ st.fault;
        taken = x.taken;
        follows = subst (λ (s : Association). Follows s.incoming (read ++ x.more) given x.taken x.next) (sym same) x.follows;
        replied = ap (length {A = Reply (List ℕ)}) x.says.1 ∙ length-one_more all.replies x.says.0 ∙ ap suc st.replied ∙ sym (length-one_more requests request);
        number = ap (λ (s : Association). s.invoke) same ∙ numbers.1 (length requests) st.number ∙ ap number_after (sym (length-one_more requests request));
        octets = ap (λ (t : List ℕ). t ++ request_octets old.association.line (length requests) request) st.octets ∙ sym (written-append old.association.line requests request)
            ∙ ap (λ (l : Line). octets_written l (requests ++ request ∷ [])) (sym (ap (λ (s : Association). s.line) same ∙ numbers.0));
        bounded = subst (λ (s : Association). IsBounded s.incoming) (sym same) (bounded st.bounded);
      };
      reply = x.says.0;
      newest = x.says.1;
      says = says (number_after (length requests)) x.says.0 (subst (λ (n : ℕ). Gives (w n) x.says.0 o) st.number x.says.2);
    }

asks_err : (old : Client) (a b : Ends) (request : Request) (w : ℕ → Awaited) (f : ClientFault) → FailsFor old.association.incoming a b (w old.association.invoke) f
    → GrowsByFront a.taken b.taken (framed old.association.line (pdu_of old.association.invoke request)) → FailsToAsk old f a b request w
asks_err old a b request w f fails sent read wrote requests given all st = (
  subst (λ (n : ℕ). FailsFor old.association.incoming a b (w n) f) st.number fails read given st.taken all st.follows,
  subst (λ (t : List ℕ). GrowsByFront a.taken b.taken t) (request_is old.association.line old.association.invoke (length requests) request st.number) sent,
)

pub asks : {V : Type 0} (old new : Client) (next : Association) (a b : Ends) (request : Request) (w : ℕ → Awaited) (o : V → Outcome) (Says : V → ℕ → Reply (List ℕ) → Type 0) (r done : Result V ClientFault)
    → ((v : V) (n : ℕ) (y : Reply (List ℕ)) → Gives (w n) y (o v) → Says v n y)
    → r ≡ done → new.association ≡ next → IfOk done (λ _. new.fault ≡ old.fault) → IfOk done (λ _. Numbers old.association next) → (IsBounded old.association.incoming → IsBounded next.incoming)
    → MatchResult done (λ v. GoesOn old.association.incoming next.incoming a.left b.left (λ x h k. Replies (w old.association.invoke) (o v) h k)) (λ f. FailsFor old.association.incoming a b (w old.association.invoke) f)
    → Writes a b (framed old.association.line (pdu_of old.association.invoke request)) done
    → MatchResult r (λ v. Asks old new a b request (Says v)) (λ f. FailsToAsk old f a b request w)
asks {V = V} old new next a b request w o Says r done says is same fault numbers bounded goes sent =
    subst (λ (y : Result V ClientFault). MatchResult y (λ v. Asks old new a b request (Says v)) (λ f. FailsToAsk old f a b request w)) (sym is) (by done fault numbers goes sent)
  where
    by : (done : Result V ClientFault) → IfOk done (λ _. new.fault ≡ old.fault) → IfOk done (λ _. Numbers old.association next)
        → MatchResult done (λ v. GoesOn old.association.incoming next.incoming a.left b.left (λ x h k. Replies (w old.association.invoke) (o v) h k)) (λ f. FailsFor old.association.incoming a b (w old.association.invoke) f)
        → Writes a b (framed old.association.line (pdu_of old.association.invoke request)) done
        → MatchResult done (λ v. Asks old new a b request (Says v)) (λ f. FailsToAsk old f a b request w)
    by (Ok v) fault numbers goes sent = asks_ok old new next a b request w (o v) (Says v) (says v) same fault numbers bounded goes sent
    by (Err f) fault numbers fails sent = asks_err old a b request w f fails sent

-- ---- the end

pub concludes : (old : Client) (a b : Ends) (r : Result (Unit {0}) ClientFault)
    → MatchResult r (λ _. GoesToEnd old.association.incoming a b (conclude_octets old.association.line ++ finish_octets old.association.line))
    (λ f. FailsToEnd old.association.incoming a b (conclude_octets old.association.line) (finish_octets old.association.line) f)
    → MatchResult r (λ _. Concludes old a b) (λ f. FailsToConclude old f a b)
concludes old a b (Ok u) goes = λ read wrote requests given all st.
    let x = goes read given st.taken all st.follows in
    record { more = x.more; passes = (x.consumes, x.writes); next = x.next; newest = x.newest; release = x.release }
concludes old a b (Err f) (inl (fails, sent)) = inl (λ read wrote requests given all st. (fails read given st.taken all st.follows, sent))
concludes old a b (Err f) (inr (fails, sent)) = inr (λ read wrote requests given all st. (fails read given st.taken all st.follows, sent))

-- ---- going on after an entry

pub resumes : (old mid new : Client) (a m b : Ends) (first second : Request) (r : Result (Result (Unit {0}) ℕ) ClientFault) → Asks old mid a m first (λ n y. AnswersWrite n y (Ok tt))
    → MatchResult r (λ v. Asks mid new m b second (λ n y. AnswersWrite n y v)) (λ f. FailsToAsk mid f m b second (λ n. awaits.Write n))
    → MatchResult r (λ v. Resumes old new a b first second v) (λ f. FailsToResume old f a b first second)
resumes old mid new a m b first second (Ok (Ok u)) one two = (mid, m, one, two)
resumes old mid new a m b first second (Ok (Err code)) one two = inr (mid, m, one, two)
resumes old mid new a m b first second (Err f) one two = inr (mid, m, one, two)
