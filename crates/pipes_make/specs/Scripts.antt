-- The scripts of runs over so many rows.
use Rattle.std.specs.Prelude.{ℕ, ◌/◌, List, [], ◌++◌, max, codes}
use Rattle.std.specs.Fmt.{decimal}

-- how many items of a source a command takes
abbrev pub share : ℕ → ℕ
share rows = max 1 (rows / 8)

abbrev pub feed : List ℕ → ℕ → List ℕ
feed command share = command ++ decimal share ++ codes "\n"

-- items of both sources, and then what else is to be done
abbrev pub feeds : ℕ → List ℕ → List ℕ
feeds share others = feed (codes "feed bids ") share ++ feed (codes "feed asks ") share ++ others

-- three shares of both sources and then all that is left; after each share these commands
abbrev pub shares : ℕ → List ℕ → List ℕ → List ℕ → List ℕ
shares rows first second third = feeds (share rows) first ++ feeds (share rows) second
    ++ feeds (share rows) third ++ codes "rest\n"

-- without migrations
abbrev pub steady_script : ℕ → List ℕ
steady_script rows = shares rows [] [] []

-- with a migration after each share
abbrev pub moving_script : ℕ → List ℕ
moving_script rows = shares rows (codes "migrate \"m1\"\n") (codes "migrate \"m2\"\n")
    (codes "migrate \"m3\"\n")
