-- What requests come to: those that call nothing, and writes of variables.
use Rattle.std.proofs.Common.{◌≡◌, ◌∙◌, ◌∷◌, ◌++◌, ℕ, List, [], map, ap, sym, subst}
use Rattle.std.proofs.lemmas.List.Elements.{All-nil}
use Rattle.sv_base.specs.declared.config.Config.{Config}
use Rattle.sv_base.specs.declared.numbers.CtlNo.{CtlNo}
use Rattle.bay_model.specs.declared.reply.Reply.{Reply}
use Rattle.bay_model.specs.declared.reply.Reply.TheVariants as replies
use Rattle.bay_model.specs.declared.request.Service.{Service}
use Rattle.bay_model.specs.declared.request.Service.TheVariants as services
use Rattle.bay_model.specs.declared.request.Write.{Write}
use Rattle.bay_model.specs.Controls.{is_enhanced}
use Rattle.bay_model.specs.Named.{configured_model}
use Rattle.bay_model.specs.Points.{Past, answered}
use Rattle.bay_model.specs.Services.{singles_of, change_of}
use Rattle.bay_model.specs.Singles.{arrival, outcomes, after_singles, write_of}
use Rattle.bay_model.specs.Waiting.{tests}
use Rattle.assoc_table.specs.Tables.{IsNumber}
use Rattle.bay_queues.specs.Calling.{IsTest}
use Rattle.bay_queues.specs.Heard.{Heard, unheard}
use Rattle.window_core.specs.Points.{at}
use Rattle.bay_core.specs.declared.asking.Came.{Came}
use Rattle.bay_core.specs.Asked.{IsReplied}
use Rattle.bay_core.specs.Came.{IsCome, replied_with}
use Rattle.bay_core.specs.Commanded.{AreSingles, AreTestsOf, CallsNothing}
use Rattle.bay_core.specs.Standing.{StandsAt}
use Rattle.block_watch.specs.Served.{AreServedSets}
use Rattle.bay_core.specs.State.{State}
use Rattle.bay_core.proofs.AskLaws.{answered-with, served-sets}
use Rattle.bay_queues.proofs.HeardLaws.{acts-all, codes-all, errors-all, quiet-acts, quiet-among, quiet-errors, tests-after, tests-all, tests_among}
use Rattle.bay_core.proofs.UncalledLaws.{quiet-all, service-uncalled}

abbrev number : CtlNo → ℕ
number k = k.0

pub no-tests : (s : State) (a : ℕ) → AreTestsOf s a []
no-tests s a = record { apart = tt; each = All-nil (IsTest (record { rows = s.rows; table = s.controls }) a) }

-- a request that calls nothing comes to its reply alone
pub replied-come : (old new : State) (moment a : ℕ) (service : Service) (r : Reply) (x : Came) → AreServedSets old.config old.book → CallsNothing service
    → x.reply ≡ r → x.before.items ≡ [] → x.acts.items ≡ [] → x.tests.items ≡ [] → IsReplied old new moment a service r → IsCome old new moment a service x
replied-come old new moment a service r x served uncalled own before acts none is = record {
  is = λ c n past st.
      (let m = configured_model c in
      let ss = singles_of m past service in
      let os = outcomes m a n moment ss past in
      let quiet = quiet-all m a n moment ss past (service-uncalled c past (served-sets old c n past served st) service uncalled) in
      record {
        reply = own ∙ is.0 c n past st;
        before = before ∙ sym (quiet-errors os quiet);
        acts = acts ∙ sym (quiet-acts os quiet);
        tests = ap (map number) none ∙ sym (quiet-among m os quiet);
      });
  due = subst (AreTestsOf new a) (sym none) (no-tests new a);
  stands = λ c n past output st fresh.
      (let m = configured_model c in
      subst (λ (ks : List CtlNo). StandsAt (replied_with new a output ks) c n (at n moment (answered a output (change_of m past service)) ∷ after_singles m a n moment (singles_of m past service) past)) (sym none) (is.1 c n past output st fresh));
}

-- a write of variables comes to its codes, and to what is heard of its commands
pub writes-come : (old z new : State) (moment a room : ℕ) (ws : List Write) (x : Came) (after : Heard) → IsNumber a → ((c : Config) (n : ℕ) (past : Past) → StandsAt old c n past → StandsAt z c n (arrival n moment ∷ past))
    → AreSingles z new a (map write_of ws) (unheard room) after → x.reply ≡ replies.Wrote after.codes → x.before.items ≡ after.before → x.acts.items ≡ after.acts → x.tests.items ≡ after.tests
    → IsCome old new moment a (services.WriteVars ws) x
writes-come old z new moment a room ws x after numbered arrived singles own before acts tested = record {
  is = λ c n past st.
      (let m = configured_model c in
      let e = is_enhanced m in
      let os = outcomes m a n moment (map write_of ws) past in
      let heard = singles.heard c n moment past (arrived c n past st) in
      record {
        reply = own ∙ ap replies.Wrote (ap (λ (h : Heard). h.codes) heard ∙ codes-all e os (unheard room));
        before = before ∙ (ap (λ (h : Heard). h.before) heard ∙ errors-all e os (unheard room));
        acts = acts ∙ (ap (λ (h : Heard). h.acts) heard ∙ acts-all e os (unheard room));
        tests = ap (map number) (tested ∙ ap (λ (h : Heard). h.tests) heard) ∙ tests-all m os (unheard room);
      });
  due = subst (AreTestsOf new a) (sym tested) (singles.tests (no-tests z a));
  stands = λ c n past output st fresh.
      (let m = configured_model c in
      let ss = map write_of ws in
      let os = outcomes m a n moment ss past in
      let heard = singles.heard c n moment past (arrived c n past st) in
      let told : map number x.tests.items ≡ tests m n (after_singles m a n moment ss past)
      = ap (map number) (tested ∙ ap (λ (h : Heard). h.tests) heard) ∙ (tests-all m os (unheard room) ∙ sym (tests-after m a n moment ss past ∙ ap (λ (l : List ℕ). l ++ tests_among m os) fresh)) in
      answered-with new c n moment a output x.tests.items (after_singles m a n moment ss past) told numbered (singles.stands c n moment past (arrived c n past st)));
}
