-- One more arrival, and the end.
use Rattle.std.proofs.Common.{◌≡◌, List, [], ◌∷◌, ◌++◌, sym, ap, ◌∙◌, subst, append_assoc, rules}
use Rattle.pipes_window.specs.declared.item.Item.{Item}
use Rattle.pipes_parcel.specs.declared.parcel.Fed.{Fed}
use Rattle.pipes_packer.specs.Packed.{Packing, Packs, PacksRest, HasPacked, HasPackedAll}
use Rattle.pipes_packer.specs.Packed.{SamePacker}
use Rattle.pipes_link.specs.Ends.{sent}
use Rattle.pipes_feeder.specs.declared.feeder.Feeder.{Feeder}
use Rattle.pipes_feeder.specs.Feeding.{FeederKeeps, FeederTakes, FeederEnds}

-- the messages that went out or are pending, with more behind them
pub longer : (before whole more now : List Fed) → now ≡ whole ++ more
    → before ++ now ≡ (before ++ whole) ++ more
longer before whole more now is = ap (λ (l : List Fed). before ++ l) is
    ∙ sym (append_assoc before whole more)

pub stands-more : (old new : Packing) (x : Item) (sent pending appended now : List Fed)
    → Packs old new x pending appended → now ≡ sent ++ appended
    → (before : List Fed) (arrivals : List Item)
    → HasPacked arrivals (before ++ (sent ++ pending)) old
    → HasPacked (arrivals ++ x ∷ []) (before ++ now) new
stands-more old new x sent pending appended now p is before arrivals h =
    let more : List Fed = p.sent.0 in
    let all : now ≡ (sent ++ pending) ++ more =
    is ∙ ap (λ (l : List Fed). sent ++ l) p.sent.1 ∙ sym (append_assoc sent pending more) in
    subst (λ (l : List Fed). HasPacked (arrivals ++ x ∷ []) l new)
    (sym (longer before (sent ++ pending) more now all))
    (p.sent.2 arrivals (before ++ (sent ++ pending)) h)

pub stands-all : (old new : Packing) (sent pending appended now : List Fed)
    → PacksRest old new pending appended → now ≡ sent ++ appended
    → (before : List Fed) (arrivals : List Item)
    → HasPacked arrivals (before ++ (sent ++ pending)) old
    → HasPackedAll arrivals (before ++ now) new
stands-all old new sent pending appended now p is before arrivals h =
    let more : List Fed = p.sent.0 in
    let all : now ≡ (sent ++ pending) ++ more =
    is ∙ ap (λ (l : List Fed). sent ++ l) p.sent.1 ∙ sym (append_assoc sent pending more) in
    subst (λ (l : List Fed). HasPackedAll arrivals l new)
    (sym (longer before (sent ++ pending) more now all))
    (p.sent.2 arrivals (before ++ (sent ++ pending)) h)

-- after messages were put that were pending
pub takes-after : (old mid new : Feeder) (x : Item) → FeederKeeps old mid → mid.packer ≡ old.packer
    → FeederTakes mid new x → FeederTakes old new x
takes-after old mid new x k same t = record {
  packer = subst (λ (p : Packing). SamePacker p new.packer) same t.packer;
  unfailed = t.unfailed;
  link = search (rules, k.link, t.link);
  finished = t.finished ∙ k.finished;
  stands = λ before arrivals h. t.stands before arrivals
      (subst (λ (p : Packing). HasPacked arrivals (before ++ (sent mid.outlet ++ mid.pending.items)) p)
      (sym same)
      (subst (λ (l : List Fed). HasPacked arrivals (before ++ l) old.packer) (sym k.messages_kept) h));
}

pub ends-after : (old mid new : Feeder) → FeederEnds old mid → FeederKeeps mid new
    → new.packer ≡ mid.packer → FeederEnds old new
ends-after old mid new e k same = record {
  packer = subst (λ (p : Packing). SamePacker old.packer p) (sym same) e.packer;
  unfailed = ap (λ (p : Packing). p.failed) same ∙ e.unfailed;
  link = search (rules, e.link, k.link);
  finished = k.finished ∙ e.finished;
  stands = λ before arrivals h.
      subst (λ (p : Packing). HasPackedAll arrivals (before ++ (sent new.outlet ++ new.pending.items)) p)
      (sym same)
      (subst (λ (l : List Fed). HasPackedAll arrivals (before ++ l) mid.packer) (sym k.messages_kept)
      (e.stands before arrivals h));
}
