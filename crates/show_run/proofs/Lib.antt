mod OutputLemmas
mod StepLemmas
