-- The query over the sources, and derivations from its plan, each from the plan before.
use Rattle.std.specs.Prelude.{ℕ, List, ◌++◌, codes}

abbrev pub query_text : List ℕ
query_text = codes "source bids from \"bids.csv\" (item int, price int) window time 50\n"
    ++ codes "source asks from \"asks.csv\" (item int, price int) window count 40\n"
    ++ codes "plan group([0], [count, max 1], distinct(minus(map([$0, $1], "
    ++ codes "filter(($1 < 90), union(bids, asks))), map([$0, $3], "
    ++ codes "join([0=0], ($3 <= $1), bids, asks)))))\n"

-- the filter goes below the union
abbrev pub first_derivation : List ℕ
first_derivation = codes "step filter_union at 0.0.0.0\n"
    ++ codes "plan group([0], [count, max 1], distinct(minus(map([$0, $1], "
    ++ codes "union(filter(($1 < 90), bids), filter(($1 < 90), asks))), map([$0, $3], "
    ++ codes "join([0=0], ($3 <= $1), bids, asks)))))\n"

-- the map goes below the union, and the join changes its sides
abbrev pub second_derivation : List ℕ
second_derivation = codes "step map_union at 0.0.0\nstep join_commute at 0.0.1.0\n"
    ++ codes "plan group([0], [count, max 1], distinct(minus("
    ++ codes "union(map([$0, $1], filter(($1 < 90), bids)), "
    ++ codes "map([$0, $1], filter(($1 < 90), asks))), map([$0, $3], "
    ++ codes "map([$2, $3, $0, $1], join([0=0], ($1 <= $3), asks, bids))))))\n"

-- the two maps above the join become one
abbrev pub third_derivation : List ℕ
third_derivation = codes "step map_merge at 0.0.1\n"
    ++ codes "plan group([0], [count, max 1], distinct(minus("
    ++ codes "union(map([$0, $1], filter(($1 < 90), bids)), "
    ++ codes "map([$0, $1], filter(($1 < 90), asks))), map([$2, $1], "
    ++ codes "join([0=0], ($1 <= $3), asks, bids)))))\n"
