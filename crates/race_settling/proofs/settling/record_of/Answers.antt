-- why `settling::record_of` answers as its contract says
use Rattle.race_records.specs.Merged.{book_seen}
use Rattle.race_records.proofs.BackLaws.{lines-there}
use Rattle.race_settling.proofs.settling.record_of.Goals as goal

pub write_record-requires : goal.write_record-requires
write_record-requires c = lines-there c.args.model.now (book_seen c.args.book.now) c.args.made.now c.requires
