-- why `known_lines::KnownLines::note_control` answers as its contract says
use Rattle.std.proofs.Common.{refl, sym, ◌∙◌}
use Rattle.std.proofs.lemmas.List.Folds.{list_any-append}
use Rattle.cfg_lines.specs.Claims.{control_keys}
use Rattle.cfg_lines.specs.Paths.{clashes}
use Rattle.cfg_reading.proofs.known_lines.KnownLines.note_control.Goals as goal

pub returns : goal.returns
returns c =
    let k = c.args.control.now in
    let keys = control_keys k.domain k.ln k.path k.model in
    record {
      noted = (
        refl,
        record {
          facts = refl;
          heads = λ key. refl;
          sets = λ key. refl;
          names = λ path. c.in_ok-add_control.ensures path ∙ sym (list_any-append (λ other. clashes path other) keys c.args.self.now.names);
        },
      );
    }
