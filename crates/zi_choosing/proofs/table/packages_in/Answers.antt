use Rattle.zi_choosing.proofs.KnownLemmas.{table_read, rows_read}
use Rattle.zi_choosing.proofs.table.packages_in.Goals as goal

pub returns-clause-has : goal.returns-clause-has
returns-clause-has g c =
    table_read c.args.table c.in-Some.file c.in_ok-bytes.bytes.items c.as_slice.result.now (g.F.Feeds.seen c.args.feeds.now) (g.F.Feeds.seen c.get_file.new.feeds) c.read_table.result c.in-Some.is
    c.as_slice.ensures.value c.in_ok-bytes.ensures c.read_table.ensures

pub returns-clause-rows : goal.returns-clause-rows
returns-clause-rows g c = rows_read c.as_slice.result.now c.read_table.result c.rows_that_are_read_are_right.ensures c.read_table.ensures
