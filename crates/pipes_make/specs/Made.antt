-- What the code's own rows stand for.
use Rattle.pipes_make.specs.Draws.{Row}
use Rattle.pipes_make.specs.declared.draws.Row.{Row as Drawn}

abbrev pub row_seen : Drawn → Row
row_seen row = record {
  stamp = row.stamp;
  is_ask = row.is_ask;
  item = row.item;
  price = row.price;
}
