use Rattle.std.proofs.Common.{ℕ, inl, Result, subst}
use Rattle.mms_client.specs.Meaning.{AnswersWrite}
use Rattle.mms_client.specs.References.{id_writing, enabling}
use Rattle.mms_client.specs.Following.{ends}
use Rattle.mms_client.specs.Standing.{Asks}
use Rattle.mms_client.proofs.ClientLaws.{resumes}
use Rattle.mms_client.proofs.client.Client.resume.Goals as goal

pub returns-in-Ok-clause-resumes : goal.returns-in-Ok-clause-resumes
returns-in-Ok-clause-resumes g c =
    let a = ends (g.L.Source.left c.args.link.now) (g.L.Sink.taken c.args.link.now) (g.L.Source.faults c.args.link.now) (g.L.Sink.faults c.args.link.now) in
    let m = ends (g.L.Source.left c.write_id.new.link) (g.L.Sink.taken c.write_id.new.link) (g.L.Source.faults c.write_id.new.link) (g.L.Sink.faults c.write_id.new.link) in
    let b = ends (g.L.Source.left c.enable.new.link) (g.L.Sink.taken c.enable.new.link) (g.L.Source.faults c.enable.new.link) (g.L.Sink.faults c.enable.new.link) in
    let first = subst (λ (v : Result (Unit {0}) ℕ). Asks c.args.self.now c.write_id.new.self a m (id_writing c.args.block.now c.args.id) (λ n y. AnswersWrite n y v)) c.in-Ok.is c.in_ok-write_id.ensures.asks in
    resumes c.args.self.now c.write_id.new.self c.enable.new.self a m b (id_writing c.args.block.now c.args.id) (enabling c.args.block.now) c.enable.result first c.enable.ensures.asks

pub returns-in-Err-clause-resumes : goal.returns-in-Err-clause-resumes
returns-in-Err-clause-resumes g c =
    let a = ends (g.L.Source.left c.args.link.now) (g.L.Sink.taken c.args.link.now) (g.L.Source.faults c.args.link.now) (g.L.Sink.faults c.args.link.now) in
    let m = ends (g.L.Source.left c.write_id.new.link) (g.L.Sink.taken c.write_id.new.link) (g.L.Source.faults c.write_id.new.link) (g.L.Sink.faults c.write_id.new.link) in
    inl (subst (λ (v : Result (Unit {0}) ℕ). Asks c.args.self.now c.write_id.new.self a m (id_writing c.args.block.now c.args.id) (λ n y. AnswersWrite n y v)) c.in-Err.is c.in_ok-write_id.ensures.asks)
