-- What contracts see of a chooser.
use Rattle.std.specs.Prelude.{◌≡◌, ◌||◌, Bool, List, Option, Some, None, nat_le}
use Rattle.std.specs.Option.{is_some}
use Rattle.j39_frame.specs.Frame.{FrameRecord}
use Rattle.j39_frame.specs.Stamp.{stamp_micros}
use Rattle.j39_frame.specs.declared.stamp.Stamp.{Stamp}
use Rattle.j39_listen.specs.Filter.{FilterRecord, filter_of, first_of, first_stamp, is_since, is_until, no_filter}
use Rattle.j39_listen.specs.declared.chooser.Chooser.{Chooser}
use Rattle.j39_listen.specs.declared.filter.Filter.{Filter}

-- nothing is asked for where no filter is given
abbrev pub which_of : Option Filter → FilterRecord
which_of None = no_filter
which_of (Some f) = filter_of f

-- senders, destinations or groups are asked for
abbrev pub has_lists : FilterRecord → Bool
has_lists which = is_some which.from || (is_some which.to || is_some which.pgns)

-- it chooses by this filter, behind the frames F
pub record Chooses (which : FilterRecord) (chooser : Chooser) (F : List FrameRecord) : Type 0 where
  pub filter_is : filter_of chooser.filter ≡ which
  pub lists_are : chooser.has_lists ≡ has_lists which
  pub begun_is : chooser.is_begun ≡ is_some (first_of F)
  pub since_is : (stamp : Stamp) → nat_le chooser.since (stamp_micros stamp) ≡ is_since (first_stamp F) (stamp_micros stamp) which.since
  pub until_is : (stamp : Stamp) → nat_le (stamp_micros stamp) chooser.until ≡ is_until (first_stamp F) (stamp_micros stamp) which.until
