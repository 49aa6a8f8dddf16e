-- The argument of the conversion, as that of its definition.
use Rattle.ends.specs.Converting.{Unlabelled}
use Rattle.capi.specs.declared.convert.UnlabelledSession.{UnlabelledSession}

abbrev pub unlabelled_by : UnlabelledSession → Unlabelled
unlabelled_by s = record { marked = s.marked; needed = s.needed; done = s.done }
