mod StepLemmas
