-- The first line that is refused is that of the text.
use Rattle.std.proofs.Common.{◌≡◌, ℕ, ◌+◌, ◌<◌, List, [], ◌∷◌, ◌++◌, length, take, drop, get_or, reverse, sym, ap, subst, ◌∙◌, arith, length-take}
use Rattle.std.specs.Prelude.{Result, Ok, Err}
use Rattle.std.specs.Result.{IsErrAnd}
use Rattle.std.proofs.lemmas.List.{reverse-append, take-append-drop, length-reverse}
use Rattle.sv_base.specs.declared.config.Config.{Config}
use Rattle.cfg_parser.specs.declared.fault.CfgFault.{CfgFault}
use Rattle.cfg_parser.specs.declared.fault.CfgFault.TheVariants as faults
use Rattle.cfg_lines.specs.declared.line.Line.{Line}
use Rattle.cfg_parser.specs.Reader.{GivesText}
use Rattle.cfg_lines.specs.Before.{number_of}
use Rattle.cfg_lines.specs.Configs.{config_of}
use Rattle.cfg_parser.specs.Text.{lines_at}
use Rattle.cfg_parser.specs.Looking.{◌>>=◌, look_at, looked_at, config_at}
use Rattle.cfg_nodes.proofs.NodeLaws.{reversed-more}

abbrev pub err_of : (A : Type 0) → CfgFault → Result A CfgFault
err_of A f = Err f

-- a fault that is passed on
pub passed-on : {A : Type 0} (given : Result A CfgFault) (fault : CfgFault) (read : Result A CfgFault) → IsErrAnd given (λ e. e ≡ fault) → GivesText (err_of A fault) read → GivesText given read
passed-on (Ok x) fault read same gives = absurd same
passed-on {A} (Err e) fault read same gives = subst (λ f. GivesText (err_of A f) read) (sym same) gives

-- what stops the lines stops the configuration
pub lines-refused : (fault : CfgFault) (text : List ℕ) → GivesText (err_of (List Line) fault) (lines_at text) → GivesText (err_of Config fault) (config_at text)
unfolding config_at
lines-refused (faults.Refused number kind) text is = ap (λ read. read >>= λ told. looked_at told told >>= λ found. Ok (config_of told)) is
lines-refused faults.Memory text is = tt

pub look-refused : (told : List Line) (fault : CfgFault) (text : List ℕ) → lines_at text ≡ Ok told → GivesText (err_of (Unit {0}) fault) (looked_at told told) → GivesText (err_of Config fault) (config_at text)
unfolding config_at
look-refused told (faults.Refused number kind) text read is = ap (λ r. r >>= λ told. looked_at told told >>= λ found. Ok (config_of told)) read ∙ ap (λ looked. looked >>= λ found. Ok (config_of told)) is
look-refused told faults.Memory text read is = tt

pub config-read : (told : List Line) (found : Unit {0}) (config : Config) (text : List ℕ) → lines_at text ≡ Ok told → looked_at told told ≡ Ok found → config ≡ config_of told → config_at text ≡ Ok config
unfolding config_at
config-read told found config text read looked is = ap (λ r. r >>= λ told. looked_at told told >>= λ found. Ok (config_of told)) read ∙ (ap (λ r. r >>= λ found. Ok (config_of told)) looked ∙ ap Ok (sym is))

-- a refusal stays, whatever follows
pub more-refused : (all more before : List Line) (fault : CfgFault) → looked_at all before ≡ Err fault → looked_at all (more ++ before) ≡ Err fault
more-refused all [] before fault is = is
more-refused all (line ∷ more) before fault is = ap (λ r. r >>= λ found. look_at all (number_of (more ++ before)) line) (more-refused all more before fault is)

module _ (all lines : List Line) (i : ℕ) (d : Line) (lt : i < length lines) (before : looked_at all (reverse (take i lines)) ≡ Ok tt) where
  here : (fault : CfgFault) → look_at all (i + 1) (get_or lines i d) ≡ Err fault → looked_at all (reverse (take (i + 1) lines)) ≡ Err fault
  here fault is =
      let number : number_of (reverse (take i lines)) ≡ i + 1 = omega (arith, length-reverse (take i lines), length-take i lines, lt) in
      ap (looked_at all) (reversed-more lines i d lt)
      ∙ (ap (λ r. r >>= λ found. look_at all (number_of (reverse (take i lines))) (get_or lines i d)) before
      ∙ (ap (λ n. look_at all n (get_or lines i d)) number ∙ is))

  split : reverse lines ≡ reverse (drop (i + 1) lines) ++ reverse (take (i + 1) lines)
  split = ap reverse (sym (take-append-drop (i + 1) lines)) ∙ reverse-append (take (i + 1) lines) (drop (i + 1) lines)

  pub line-refused : (fault : CfgFault) → GivesText (err_of (Unit {0}) fault) (look_at all (i + 1) (get_or lines i d)) → GivesText (err_of (Unit {0}) fault) (looked_at all (reverse lines))
  line-refused (faults.Refused number kind) is = ap (looked_at all) split ∙ more-refused all (reverse (drop (i + 1) lines)) (reverse (take (i + 1) lines)) (faults.Refused number kind) (here (faults.Refused number kind) is)
  line-refused faults.Memory is = tt
