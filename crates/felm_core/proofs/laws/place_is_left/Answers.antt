use Rattle.felm_core.proofs.Room.{place_to_feed, place_to_enter}
use Rattle.felm_core.proofs.laws.place_is_left.Goals as goal

pub returns : goal.returns
returns c = λ s c graph sound named legal enough. (
  λ e h. place_to_feed s c graph sound legal enough e named h,
  λ a v h. place_to_enter s c graph sound legal enough a v h,
)
