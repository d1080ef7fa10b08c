-- why `running::streams_are_run` answers as its contract says
use Rattle.osi_stack.specs.Stream.{called, calling}
use Rattle.osi_stack.proofs.RunSideLaws.{stands_run, refused_run, kept_run, stopped_run, further_run}
use Rattle.osi_stack.proofs.running.streams_are_run.Goals as goal

pub returns : goal.returns
returns c = record {
  stands = stands_run;
  refused = refused_run;
  continues = further_run;
  upper_stands = λ u. kept_run u.connection called;
  upper_refuses = stopped_run called;
  caller_stands = λ x size. kept_run x.connection (calling size);
  caller_refuses = λ layer code count size. stopped_run (calling size) layer code count;
}
