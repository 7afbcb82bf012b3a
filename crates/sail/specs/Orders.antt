-- How an order is written.
use Rattle.std.specs.Prelude.{ℕ, List, ◌++◌, codes}
use Rattle.std.specs.Fmt.{decimal}
use Rattle.sail.specs.declared.orders.Order.{Order}
use Rattle.sail.specs.declared.orders.Order.TheVariants.{Steer, Hear}

abbrev pub order_text : Order → List ℕ
order_text Steer = codes "steer"
order_text (Hear number) = codes "hear=" ++ decimal number
