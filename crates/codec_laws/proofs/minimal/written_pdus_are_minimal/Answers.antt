-- why `minimal::written_pdus_are_minimal` answers as its contract says
use Rattle.codec_laws.proofs.MinimalLaws.{initiate_request_minimal, initiate_answer_minimal, read_minimal, write_minimal, conclude_minimal, answer_minimal, error_minimal, reject_minimal, report_minimal, concluded_minimal}
use Rattle.codec_laws.proofs.minimal.written_pdus_are_minimal.Goals as goal

pub returns : goal.returns
returns c = record {
  initiate_request = initiate_request_minimal;
  initiate_answer = initiate_answer_minimal;
  read = read_minimal;
  write = write_minimal;
  conclude = conclude_minimal;
  answer = answer_minimal;
  error = error_minimal;
  reject = reject_minimal;
  report = report_minimal;
  concluded = concluded_minimal;
}
