-- What a line was read as.
use Rattle.j39_log.specs.Spelled.{Spelled, frame, other, unread, blank}
use Rattle.j39_log.specs.declared.line.Line.{Line}
use Rattle.j39_log.specs.declared.line.Line.TheVariants.{Frame, Other, Unread, Blank}

abbrev pub spelled_of : Line → Spelled
spelled_of (Frame bus f) = frame bus.now f
spelled_of Other = other
spelled_of Unread = unread
spelled_of Blank = blank
