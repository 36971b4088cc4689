-- One line more, by what it counts as.
use Rattle.j39_listen.proofs.counts.Tally.with.Goals as goal

pub returns-in-Frame : goal.returns-in-Frame
returns-in-Frame c = rw c.in-Frame.is c.and.ensures

pub returns-in-Other : goal.returns-in-Other
returns-in-Other c = rw c.in-Other.is c.and-in-Other.ensures

pub returns-in-Unread : goal.returns-in-Unread
returns-in-Unread c = rw c.in-Unread.is c.and-in-Unread.ensures

pub returns-in-Blank : goal.returns-in-Blank
returns-in-Blank c = rw c.in-Blank.is c.and-in-Blank.ensures
