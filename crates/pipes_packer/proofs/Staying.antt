-- What is packed stays so.
use Rattle.std.proofs.Common.{List}
use Rattle.pipes_stream.specs.declared.Elem.{Elem}
use Rattle.pipes_split.specs.Knowledge.{Knowledge, KnowsMore}
use Rattle.pipes_parcel.specs.declared.parcel.Fed.{Fed}
use Rattle.pipes_parcel.proofs.Putting.{pieces-more}
use Rattle.pipes_packer.specs.Packing.{AreCut, ArePacked, PackedStays}

pub cut-stays : (k l : Knowledge) (elems : List Elem) (feds : List Fed) → KnowsMore k l
    → AreCut k elems feds → AreCut l elems feds
cut-stays k l _ _ g AreCut.none = AreCut.none
cut-stays k l _ _ g (AreCut.more elems feds e parts before pieces) =
    AreCut.more elems feds e parts (cut-stays k l elems feds g before)
    (pieces-more k l 0 e parts g pieces)

pub stays : PackedStays
stays k l slack kind _ _ g ArePacked.none = ArePacked.none
stays k l slack kind _ _ g (ArePacked.more arrivals feds x elems cut before is pieces) =
    ArePacked.more arrivals feds x elems cut (stays k l slack kind arrivals feds g before) is
    (cut-stays k l elems cut g pieces)
