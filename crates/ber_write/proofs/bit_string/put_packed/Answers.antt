-- why `bit_string::put_packed` answers as its contract says
use Rattle.std.proofs.Math.Nat.{pos_of_ne-zero}
use Rattle.std.proofs.lemmas.Bool.{eqb-false}
use Rattle.ber_write.proofs.BitLaws.{written_more, kept_push}
use Rattle.ber_write.proofs.bit_string.put_packed.Goals as goal

pub loop-rest-preserved : goal.loop-rest-preserved
loop-rest-preserved c = record {
  written = written_more c.loop-rest.out.items _ _ c.loop-rest.rest.now _ _ c.loop-rest.invariant.written (pos_of_ne-zero (eqb-false _ _ (cc))) c.first_octet_of.ensures c.behind_eight-rest.ensures c.in_ok-push.ensures.items;
  kept = kept_push _ c.loop-rest.out.items _ _ c.loop-rest.invariant.kept c.in_ok-push.ensures.items;
}
